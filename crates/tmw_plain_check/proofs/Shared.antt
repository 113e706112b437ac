-- What the proofs of this crate take from the libraries, from the crates below and from its specs.
pub use Rattle.std.proofs.Common.{Bool, Bor, Err, IfErr, IfOk, IsTrue, List, None, Ok, Result, Some, [], ap, append-nil, append_assoc, arith, drop, false, get_or, inl, inr, length, refl, subst, suc, sym, take, true, zero, ℕ, ◌&&◌, ◌*◌, ◌++◌, ◌+◌, ◌-◌, ◌<◌, ◌==◌, ◌||◌, ◌∙◌, ◌∷◌, ◌≡◌, ◌≤◌}
pub use Rattle.std.proofs.lemmas.Bool.{and_from, and_parts, both_ways, cases_Bool, cases_lt, ltb-false, ne_eqb, or_cases, or_left, or_right}
pub use Rattle.std.proofs.lemmas.List.{drop-map, length-map, length-take, map-append, take-map, take_more}
pub use Rattle.std.proofs.lemmas.Option.{slice_get-map, slice_get_read, slice_get_within}
pub use Rattle.std.specs.Prelude.{IsFalse, is_err, not, position, remove, slice_get, slice_set}
pub use Rattle.tmw_defs.proofs.DecisionProof.{found_below, is_explained-complete, is_explained-sound}
pub use Rattle.tmw_defs.specs.History.{Txn, add_event, is_well_formed, operations, status_of, transactions, transactions_from}
pub use Rattle.tmw_defs.specs.Opaque.{Explains, HasOrder, Placed, State, after, after_writes, may_hold, precedes, reads_hold}
pub use Rattle.tmw_defs.specs.OrderDecision.{has_order, is_explained, is_free, may_come, one_below}
pub use Rattle.tmw_defs.specs.Strict.{AreHeld, HasStrictOrder}
pub use Rattle.tmw_defs.specs.declared.criterion.Criterion.{Criterion}
pub use Rattle.tmw_events.specs.declared.event.Event.{Event}
pub use Rattle.tmw_wellformed.specs.Tracker.{Tracks}
pub use Rattle.tmw_plain_check.specs.Completions.{goes_with, has_completion}
pub use Rattle.tmw_plain_check.specs.PlainTransaction.{joins, shown, txn_of, txns_of}
pub use Rattle.tmw_plain_check.specs.Verdict.{HasOrderBy, IsFaultless, IsFirstAtFault, IsNotFinal, JudgesBy, Weighs}
pub use Rattle.tmw_plain_check.specs.declared.plain_transaction.PlainTransaction.{PlainTransaction}
