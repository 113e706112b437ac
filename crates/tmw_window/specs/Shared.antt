-- What the definitions and contracts of this crate take from the libraries and from the crates below.
pub use Rattle.std.specs.List.{Contains, list_all}
pub use Rattle.tmw_cuts.specs.Members.{members}
pub use Rattle.tmw_defs.specs.Opaque.{State}
pub use Rattle.tmw_defs.specs.Verdict.{IsVerdict, IsViolated, Rules}
pub use Rattle.tmw_defs.specs.declared.verdict.Verdict.{Verdict}
pub use Rattle.tmw_defs.specs.declared.verdict.Verdict.TheVariants.{Malformed, OpaqueSoFar, StrictSoFar, Undecided, Violated}
pub use Rattle.tmw_events.specs.declared.event.Event.{Event}
pub use Rattle.tmw_monitor.specs.Fits.{Fits, rules_for}
pub use Rattle.tmw_monitor.specs.HoldsOpen.{AreLastOutcomes}
pub use Rattle.tmw_monitor.specs.Monitor.{IsOpen, fed_of, verdict_of}
pub use Rattle.tmw_monitor.specs.declared.monitor.Monitor.{Monitor}
