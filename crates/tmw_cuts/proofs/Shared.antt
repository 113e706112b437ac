-- What the proofs of this crate take from the libraries, from the crates below and from its specs.
pub use Rattle.std.proofs.Common.{Bool, Err, IsTrue, List, None, Ok, Option, Result, Some, [], add-one, ap, append_assoc, arith, bit_or, drop, false, get_or, inl, inr, length, length-append, map, nat_cmp, not, pow-suc, refl, rules, set, subst, suc, sym, take, true, w8, zero, ℕ, ◌%◌, ◌&&◌, ◌*◌, ◌++◌, ◌+◌, ◌-◌, ◌/◌, ◌<◌, ◌==◌, ◌^◌, ◌||◌, ◌↔◌, ◌∙◌, ◌∷◌, ◌≡◌, ◌≤◌, ◌⊎◌}
pub use Rattle.std.proofs.Math.Bool.{and-true}
pub use Rattle.std.proofs.Math.Nat.{mod-eq_of_lt}
pub use Rattle.std.proofs.Math.Pow.{pow_mono}
pub use Rattle.std.proofs.lemmas.Bool.{and_parts, and_right, cases_Bool, cases_eq, cases_lt, cond_both, eq-eqb, eqb-false, eqb-true, le-ltb, lt-ltb}
pub use Rattle.std.proofs.lemmas.Cmp.{nat_list_cmp_total, tied_itself}
pub use Rattle.std.proofs.lemmas.List.{append-nil, drop_all, get_or-set_other, get_or-set_same, get_or-take, get_or_default, length-map, length-set, length-take-le, map-append, same_lists, set-get_or, take-append-drop, take-set-le, take_more_set}
pub use Rattle.std.proofs.lemmas.List.Folds.{list_all-append, list_all-map}
pub use Rattle.std.proofs.lemmas.Map.Lookups.{CmpEqualImpliesEq, exact_bytes}
pub use Rattle.std.proofs.lemmas.Nat.Bits.{and_pow, bit_at-pow_other, bit_at-pow_same, bit_at-suc, bit_at-trailing_zeros, bit_at-zero, bit_at_above, bit_at_lowest, bit_at_or, bit_at_set_other, bit_at_set_same, same_from_bits}
pub use Rattle.std.specs.Cmp.Lexicographic.{slice_cmp}
pub use Rattle.std.specs.Int.{bit_at}
pub use Rattle.std.specs.List.{AllByRecursion, Contains, insert, list_all, range_with_len}
pub use Rattle.std.specs.List.Sorted.{IsBinarySearchResult, IsNonDecreasingBy, IsPartitionPoint, IsSearchInRange}
unfoldable pub use Rattle.std.specs.List.Sorted.{IsStrictlySortedBy}
pub use Rattle.std.specs.Prelude.{IfErr, if◌then◌else◌, is_ok, option_and_then, option_map, slice_get, slice_index, slice_index_or, slice_set}
pub use Rattle.tmw_defs.proofs.Along.{Pairs}
pub use Rattle.tmw_defs.proofs.OneMore.{ended_rest, only_one, transactions-push}
pub use Rattle.tmw_defs.proofs.Places.{IsLater, Lies, later-transactions, lies-transactions, transactions_from-append, transactions_from-ended}
pub use Rattle.tmw_defs.proofs.QuietTexts.{status_of-push}
pub use Rattle.tmw_defs.specs.Cuts.{is_cut}
pub use Rattle.tmw_defs.specs.History.{Txn, add_event, answers, is_ended, is_over, is_text, is_well_formed, operation, operations, status_after, status_of, transactions, transactions_from}
pub use Rattle.tmw_defs.specs.Opaque.{Placed, State, after, after_writes, precedes, reads_hold}
pub use Rattle.tmw_defs.specs.declared.op.Op.{Op}
pub use Rattle.tmw_defs.specs.declared.op.Op.TheVariants.{Add, Read, Write}
pub use Rattle.tmw_defs.specs.declared.status.Status.TheVariants.{Live, Pending}
pub use Rattle.tmw_events.specs.declared.event.Event.{Event}
pub use Rattle.tmw_events.specs.declared.event.Kind.{Kind}
pub use Rattle.tmw_events.specs.declared.event.Kind.TheVariants.{A, C, K, N, R, T, V, W, X}
pub use Rattle.tmw_events.specs.declared.ix.Ix.{Ix}
pub use Rattle.tmw_events.specs.declared.registers.Registers.{Registers}
pub use Rattle.tmw_wellformed.proofs.PhaseTexts.{Rejects, answers_asked, is_call_answer, is_call_asked, rejects_lacking}
pub use Rattle.tmw_wellformed.proofs.TextSteps.{call_of-push, goes_on}
pub use Rattle.tmw_wellformed.proofs.TrackerSteps.{is_well_formed-push, refuses-from}
pub use Rattle.tmw_wellformed.specs.Faults.{Refuses, asks, lacks_register}
pub use Rattle.tmw_wellformed.specs.PendingCalls.{call_of, live_of, pending_call}
pub use Rattle.tmw_wellformed.specs.declared.malformed.Malformed.{Malformed}
pub use Rattle.tmw_wellformed.specs.declared.malformed.Malformed.TheVariants.{Idle, Register}
pub use Rattle.tmw_cuts.specs.Effects.{IsEffectOf, SumsUp}
pub use Rattle.tmw_cuts.specs.RegisterMask.{IsMaskOf, have, put}
unfoldable pub use Rattle.tmw_cuts.specs.RegisterMask.{chosen}
pub use Rattle.tmw_cuts.specs.RegisterUse.{needs, writes}
pub use Rattle.tmw_cuts.specs.StandsFor.{Follows, IsNext, StandsFor, before_of, begun_by, calls_in, count_of, turn_at, txns_of, view_of, views, views_of}
pub use Rattle.tmw_cuts.specs.Turns.{Found, Turns, after_call, between, change, find_open, found_in, further, is_open_for, kept_in, move_of, numbered}
pub use Rattle.tmw_cuts.specs.Views.{View, bit, completed_mask, new_view, view, with_op, with_status}
pub use Rattle.tmw_cuts.specs.declared.effect.Effect.{Effect}
pub use Rattle.tmw_cuts.specs.declared.turn.Move.{Move}
pub use Rattle.tmw_cuts.specs.declared.turn.Move.TheVariants.{Answer, Ask, Begin, End}
pub use Rattle.tmw_cuts.specs.declared.turn.Turn.{Turn}
pub use Rattle.tmw_cuts.specs.declared.window.Window.{Window}
