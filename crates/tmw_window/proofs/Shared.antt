-- What the proofs of this crate take from the libraries, from the crates below and from its specs.
pub use Rattle.std.proofs.Common.{All, Bool, IsFalse, IsTrue, List, [], ap, ap₂, arith, false, get_or, inl, inr, length, nat_lt, not, refl, rules, subst, sym, take-append-drop, true, ℕ, ◌%◌, ◌&&◌, ◌++◌, ◌+◌, ◌-◌, ◌<◌, ◌==◌, ◌^◌, ◌↔◌, ◌∙◌, ◌∷◌, ◌≡◌, ◌≤◌}
pub use Rattle.std.proofs.Math.Seq.{drop-append-add, take-add, take-append-add, take-length}
pub use Rattle.std.proofs.lemmas.Bool.{and_from, and_parts, cases_lt, ltb-true}
pub use Rattle.std.proofs.lemmas.List.{drop-append-le, drop-set-lt, drop_all, length-append, length-drop, length-set, length-take-le, take-take, take_all, take_more}
pub use Rattle.std.proofs.lemmas.List.Elements.{All-set, All-take}
pub use Rattle.std.proofs.lemmas.List.Folds.{list_all-append}
pub use Rattle.std.specs.List.{Contains, list_all}
pub use Rattle.std.specs.Prelude.{drop, slice_index_or, slice_set, take}
pub use Rattle.tmw_defs.proofs.Criteria.{final-outcome, formed-final, outcome-final}
pub use Rattle.tmw_defs.proofs.CutLaws.{cut_law}
pub use Rattle.tmw_defs.proofs.VerdictProof.{fine-so_far, so_far-fine, sums_up-new, verdict-one}
pub use Rattle.tmw_defs.proofs.WindowsProof.{HasWide_push, between-open, is_cut-append, length-push, take-push}
pub use Rattle.tmw_defs.specs.Criteria.{IsFinalBy, outcomes_by, so_far}
pub use Rattle.tmw_defs.specs.Cuts.{is_cut}
pub use Rattle.tmw_defs.specs.History.{Txn, add_event, answers, ends, is_call, is_text, is_well_formed, operations, transactions, transactions_from}
pub use Rattle.tmw_defs.specs.LastCut.{IsLastCut}
pub use Rattle.tmw_defs.specs.Opaque.{Placed, State, after, after_writes}
pub use Rattle.tmw_defs.specs.Verdict.{AreFine, HasMany, IsFine, IsFirst, IsMalformed, IsTooMany, IsTooWide, IsVerdict, IsViolated, Rules}
pub use Rattle.tmw_defs.specs.Windows.{HasWide, IsCutAt, between}
pub use Rattle.tmw_defs.specs.declared.criterion.Criterion.{Criterion}
pub use Rattle.tmw_defs.specs.declared.verdict.Verdict.{Verdict}
pub use Rattle.tmw_defs.specs.declared.verdict.Verdict.TheVariants.{Malformed, OpaqueSoFar, StrictSoFar, Undecided, Violated}
pub use Rattle.tmw_defs.specs.declared.verdict.Why.TheVariants.{States, Transactions}
pub use Rattle.tmw_events.specs.Text.{FitsKind}
pub use Rattle.tmw_events.specs.declared.event.Event.{Event}
pub use Rattle.tmw_monitor.specs.HoldsOpen.{AreLastOutcomes}
pub use Rattle.tmw_window.specs.KeptWindow.{IsNext, KeepsSame, KeepsShown}
pub use Rattle.tmw_window.specs.ShownEvents.{IsShown, before_shown, shown_length}
pub use Rattle.tmw_window.specs.StatesLaw.{FitsRegisters, StatesLaw}
pub use Rattle.tmw_window.specs.WindowLaw.{WindowLaw, at_end, from_state}
