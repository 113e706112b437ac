-- What the proofs of this crate take from the libraries, from the crates below and from its specs.
pub use Rattle.std.proofs.Common.{IsFalse, IsTrue, List, [], ap, append_assoc, arith, false, inl, inr, length, refl, rules, subst, sym, true, ℕ, ◌++◌, ◌+◌, ◌-◌, ◌<◌, ◌^◌, ◌↔◌, ◌∙◌, ◌∷◌, ◌≡◌, ◌≤◌}
pub use Rattle.std.proofs.Math.Logic.{∥∥₁_elim, ∥∥₁_map}
pub use Rattle.std.proofs.lemmas.Bool.{both_ways, cases_Bool, cases_lt}
pub use Rattle.std.proofs.lemmas.List.{append-nil, length-append, length_push}
pub use Rattle.std.proofs.lemmas.Result.{err_from_is_err_and}
pub use Rattle.tmw_counts.specs.CountedPart.{is_open, part_by}
pub use Rattle.tmw_defs.specs.Criteria.{IsFinalBy, so_far}
pub use Rattle.tmw_defs.specs.Verdict.{HasMany, IsFirst, IsTooMany, IsVerdict, IsViolated, Rules}
pub use Rattle.tmw_defs.specs.declared.criterion.Criterion.{Criterion}
pub use Rattle.tmw_defs.specs.declared.criterion.Criterion.TheVariants.{Opacity}
pub use Rattle.tmw_defs.specs.declared.verdict.Verdict.{Verdict}
pub use Rattle.tmw_defs.specs.declared.verdict.Verdict.TheVariants.{Malformed, OpaqueSoFar, Undecided, Violated}
pub use Rattle.tmw_defs.specs.declared.verdict.Why.TheVariants.{States, Transactions}
pub use Rattle.tmw_events.specs.declared.event.Event.{Event}
pub use Rattle.tmw_monitor.specs.Fits.{Fits}
pub use Rattle.tmw_monitor.specs.Monitor.{IsOpen, criterion_of, verdict_of}
pub use Rattle.tmw_monitor.specs.declared.monitor.Monitor.{Monitor}
pub use Rattle.tmw_ring.specs.RingEnds.{ReaderIs, ReaderOf, WriterIs}
pub use Rattle.tmw_ring.specs.SeatPart.{made_from}
pub use Rattle.tmw_pump.specs.Front.{HasJudged, KeepsFit}
pub use Rattle.tmw_pump.specs.Headline.{GivesHeadline, Headline, IsFirstViolation, IsLogOf, IsWithinBounds}
pub use Rattle.tmw_pump.specs.Keep.{IsKept, StaysKept, WasKept}
pub use Rattle.tmw_pump.specs.Pump.{HasPumped, HasTakenAll, PumpIs, pump_in}
pub use Rattle.tmw_pump.specs.Rest.{HasRested, IsRested, RestIs, all_of, rest_in}
pub use Rattle.tmw_pump.specs.WasFed.{WasCounted, WasFed}
pub use Rattle.tmw_pump.specs.declared.front.Front.{Front}
