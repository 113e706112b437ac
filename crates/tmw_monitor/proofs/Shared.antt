-- What the proofs of this crate take from the libraries, from the crates below and from its specs.
pub use Rattle.std.proofs.Common.{All, AllPairs, Bool, IfSome, IsFalse, IsTrue, List, None, Option, Some, [], ap, append_assoc, arith, drop, false, get_or, inl, inr, length, refl, rules, subst, suc, sym, take, true, zero, ℕ, ◌++◌, ◌+◌, ◌<◌, ◌↔◌, ◌∙◌, ◌∷◌, ◌≡◌, ◌≢◌, ◌≤◌, ◌⊎◌}
pub use Rattle.std.proofs.lemmas.Bool.{cases_lt}
pub use Rattle.std.proofs.lemmas.Bool.Decides.{Decides-eqb}
pub use Rattle.std.proofs.lemmas.List.{append-nil, drop-append-le, drop_all, take-append-drop, take_all, take_more}
pub use Rattle.std.proofs.lemmas.Slice.Eq.{slice_eq-Decides}
pub use Rattle.std.specs.List.{Contains}
pub use Rattle.std.specs.Prelude.{is_some, not, remove, slice_get}
pub use Rattle.tmw_cuts.proofs.FirstMembers.{contains_here}
pub use Rattle.tmw_cuts.proofs.NextViews.{is_end}
pub use Rattle.tmw_cuts.proofs.OneEventMore.{formed-next, found-begun, grows, length-views_of, moves, uncut-next}
pub use Rattle.tmw_cuts.specs.Members.{HasRoom, members}
pub use Rattle.tmw_cuts.specs.StandsFor.{Follows, IsNext, StandsFor, begun_by, count_of, views_of}
pub use Rattle.tmw_cuts.specs.declared.states.States.{States}
pub use Rattle.tmw_cuts.specs.declared.turn.Move.{Move}
pub use Rattle.tmw_cuts.specs.declared.turn.Move.TheVariants.{Answer, Ask, Begin, End}
pub use Rattle.tmw_cuts.specs.declared.window.Window.{Window}
pub use Rattle.tmw_defs.proofs.VerdictProof.{IsFirst-push, so_far-fine, sums_up-cut, sums_up-new, sums_up-open, sums_up-quiet, verdict-malformed, verdict-many, verdict-violated, verdict-wide}
pub use Rattle.tmw_defs.proofs.Weaker.{ends-by}
pub use Rattle.tmw_defs.specs.Criteria.{EndsBy, IsFinalBy, is_quiet_by, outcomes_by, so_far}
pub use Rattle.tmw_defs.specs.Cuts.{is_cut}
pub use Rattle.tmw_defs.specs.History.{Txn, is_well_formed, operation, transactions}
pub use Rattle.tmw_defs.specs.LastCut.{SumsUp}
pub use Rattle.tmw_defs.specs.Opaque.{State}
pub use Rattle.tmw_defs.specs.Outcomes.{Ends, MoreThan}
pub use Rattle.tmw_defs.specs.Verdict.{IsFine, IsMalformed, IsTooMany, IsTooWide, IsVerdict, IsViolated, Rules}
pub use Rattle.tmw_defs.specs.declared.criterion.Criterion.{Criterion}
pub use Rattle.tmw_defs.specs.declared.criterion.Criterion.TheVariants.{Opacity, Strict}
pub use Rattle.tmw_defs.specs.declared.verdict.Verdict.{Verdict}
pub use Rattle.tmw_defs.specs.declared.verdict.Verdict.TheVariants.{Malformed, OpaqueSoFar, StrictSoFar, Undecided, Violated}
pub use Rattle.tmw_events.specs.declared.event.Event.{Event}
pub use Rattle.tmw_events.specs.declared.event.Kind.{Kind}
pub use Rattle.tmw_events.specs.declared.ix.Ix.{Ix}
pub use Rattle.tmw_events.specs.declared.registers.Registers.{Registers}
pub use Rattle.tmw_search.proofs.OneEnd.{one_member}
pub use Rattle.tmw_search.specs.EndStates.{EndsOf, HasMoreThan}
pub use Rattle.tmw_wellformed.specs.Faults.{Refuses, asks}
pub use Rattle.tmw_witness.proofs.OneEventMore.{asks-kept, begun-pushed, completed-within, no_commit}
pub use Rattle.tmw_witness.specs.Witness.{ExplainsWith, Witnesses, state_of}
pub use Rattle.tmw_witness.specs.declared.witness.Witness.{Witness}
pub use Rattle.tmw_monitor.specs.BothMonitor.{Agree, FitEach, FitsBoth, IsCopy, Parts, by, strict_in}
pub use Rattle.tmw_monitor.specs.BrokenRule.{IsBrokenAt, TellsBroken, TellsFollowed}
pub use Rattle.tmw_monitor.specs.Fits.{Concludes, Fits, Keeps, KeepsNothing, TellsWrong, rules_for, rules_of}
pub use Rattle.tmw_monitor.specs.OutcomeCheck.{Closes, StaysOpen, Tells, TellsEnds, WeighsNext, wrong_of}
pub use Rattle.tmw_monitor.specs.TakeAtOnce.{StaysFine, StaysKept}
pub use Rattle.tmw_monitor.specs.declared.both_monitor.BothMonitor.{BothMonitor}
pub use Rattle.tmw_monitor.specs.declared.broken_rule.BrokenRule.{BrokenRule}
pub use Rattle.tmw_monitor.specs.declared.history_digest.HistoryDigest.{HistoryDigest}
pub use Rattle.tmw_monitor.specs.declared.monitor.Monitor.{Monitor}
pub use Rattle.tmw_monitor.specs.declared.outcome_check.OutcomeCheck.{OutcomeCheck}
pub use Rattle.tmw_monitor.specs.declared.outcome_check.OutcomeCheck.TheVariants.{NoOutcome, Outcome, TooMany}
