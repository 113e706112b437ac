-- What the definitions and contracts of this crate take from the libraries and from the crates below.
pub use Rattle.tmw_defs.specs.ThreadTransactions.{kinds_of}
pub use Rattle.tmw_events.specs.declared.event.Event.{Event}
pub use Rattle.tmw_events.specs.declared.event.Kind.{Kind}
pub use Rattle.tmw_runs.specs.Scripts.{script_at, scripts_of}
pub use Rattle.tmw_tm.specs.Answers.{Answer, Call}
pub use Rattle.tmw_workers.specs.Player.{IsEnding, IsNew, Plays, calls_of, left_of, next_of}
pub use Rattle.tmw_workers.specs.declared.ending.Ending.{Ending}
