-- What the proofs of this crate take from the libraries, from the crates below and from its specs.
pub use Rattle.std.proofs.Common.{IsTrue, List, None, Option, Some, [], ap, append_assoc, arith, drop, get_or, inl, inr, length, length-append, refl, rules, set, subst, sym, true, ℕ, ◌*◌, ◌++◌, ◌+◌, ◌<◌, ◌^◌, ◌∙◌, ◌∷◌, ◌≡◌, ◌≤◌}
pub use Rattle.std.proofs.lemmas.Bool.{cases_eq, cases_lt}
pub use Rattle.std.proofs.lemmas.List.{append-nil, get_or-set_other, get_or-set_same, get_or_default, get_or_past, length-map, length-set, take_at}
pub use Rattle.std.proofs.lemmas.List.Elements.{All-append, All-cons, All-head, All-nil, All-tail}
pub use Rattle.std.specs.Prelude.{All, OnOk, Result, slice_set}
pub use Rattle.tmw_defs.specs.ThreadTransactions.{kinds_of}
pub use Rattle.tmw_defs.specs.Verdict.{IsVerdict, Rules}
pub use Rattle.tmw_events.specs.declared.event.Event.{Event}
pub use Rattle.tmw_events.specs.declared.event.Kind.{Kind}
pub use Rattle.tmw_runs.proofs.WellFormed.{kinds_of-append, no_kinds}
pub use Rattle.tmw_runs.specs.Scripts.{are_transactions, script_at, script_of, scripts_of}
pub use Rattle.tmw_tm.specs.Answers.{Answer, Call}
pub use Rattle.tmw_workers.proofs.Players.{beginning-plays, call-plays, goes_on-same, not_whole-plays, plays-goes_on, plays-new, whole-plays}
pub use Rattle.tmw_workers.specs.Player.{IsEnding, Plays, calls_of, left_of, next_of}
pub use Rattle.tmw_workers.specs.declared.ending.Ending.{Ending}
pub use Rattle.tmw_workers.specs.declared.player.Player.{Player}
pub use Rattle.tmw_workloads.proofs.Workloads.{are_transactions-workload, length-order, within-order}
pub use Rattle.tmw_drive.specs.Drive.{DoesEntry, Drives, EndsAs, IsDriven}
pub use Rattle.tmw_drive.specs.Players.{AllEnd, AllNew, AllPlay}
