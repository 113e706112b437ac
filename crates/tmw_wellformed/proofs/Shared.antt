-- What the proofs of this crate take from the libraries, from the crates below and from its specs.
pub use Rattle.std.proofs.Common.{Bool, Err, IsFalse, IsTrue, List, None, Ok, Option, Some, [], ap, arith, false, inl, inr, length, length-append, not, refl, suc, sym, true, ℕ, ◌&&◌, ◌++◌, ◌+◌, ◌-◌, ◌<◌, ◌==◌, ◌↔◌, ◌∙◌, ◌∷◌, ◌≡◌}
pub use Rattle.std.proofs.lemmas.Bool.{and_parts, both_ways, cases_Bool, cases_eq, ne_eqb, not-true}
pub use Rattle.std.proofs.lemmas.List.Sums.{sum_by-cons, sum_by-set}
pub use Rattle.std.specs.List.{find, list_all, list_any}
pub use Rattle.std.specs.Prelude.{count_by, if◌then◌else◌, is_some, option_and_then, slice_get, slice_index_or, slice_set}
pub use Rattle.tmw_defs.proofs.OneMore.{begun, ended_rest, longer, only_one, transactions-push}
pub use Rattle.tmw_defs.proofs.TextsProof.{is_ended-cons, is_over-ends, slice_get_end, texts_law}
pub use Rattle.tmw_defs.specs.History.{Txn, add_event, answers, ends, is_call, is_ended, is_text, is_well_formed, transactions}
pub use Rattle.tmw_events.specs.declared.event.Event.{Event}
pub use Rattle.tmw_events.specs.declared.event.Kind.{Kind}
pub use Rattle.tmw_wellformed.specs.Faults.{Refuses, asks, earlier, has_fault, lacks_register}
pub use Rattle.tmw_wellformed.specs.PendingCalls.{call_of, live_count, live_of, pending_call}
pub use Rattle.tmw_wellformed.specs.Phase.{is_live, next_phase, phase_of, phase_within, takes, waits}
pub use Rattle.tmw_wellformed.specs.declared.malformed.Malformed.{Malformed}
pub use Rattle.tmw_wellformed.specs.declared.malformed.Malformed.TheVariants.{Register}
pub use Rattle.tmw_wellformed.specs.declared.phase.Phase.{Phase}
pub use Rattle.tmw_wellformed.specs.declared.phase.Phase.TheVariants.{Between}
