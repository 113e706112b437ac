-- What the proofs of this crate take from the libraries, from the crates below and from its specs.
pub use Rattle.std.proofs.Common.{Bool, Err, IsFalse, IsPermutation, IsSorted, IsTrue, List, None, Ok, OnErr, OnOk, Option, Result, Some, [], ap, arith, bit_and, bit_or, cond, false, inl, inr, length, map, nat_cmp, nat_eq, not, pow-suc, refl, rules, subst, suc, sym, take, true, w8, zero, ℕ, ◌%◌, ◌&&◌, ◌*◌, ◌++◌, ◌+◌, ◌-◌, ◌/◌, ◌<◌, ◌==◌, ◌^◌, ◌||◌, ◌∙◌, ◌∷◌, ◌≡◌, ◌≤◌, ◌⊎◌}
pub use Rattle.std.proofs.Math.ListN.{set}
pub use Rattle.std.proofs.lemmas.Bool.{and_from, and_left, and_parts, and_right, cases_Bool, cases_eq, cases_lt, eq-eqb, eqb-true, le-ltb, lt-ltb, ltb-true, ne_eqb, not-false, not-true, not_from_false}
pub use Rattle.std.proofs.lemmas.List.{ext_get_or, get_or-map, get_or-replicate, get_or-set_other, get_or-set_same, get_or_default, get_or_past, length-map, length-set, nil_from_length, set-set, take_all, take_more}
pub use Rattle.std.proofs.lemmas.List.Elements.{Contains-append_cases, Contains-append_left, Contains-get_or, Contains-push, Contains-push_cases}
pub use Rattle.std.proofs.lemmas.List.Sums.{count_by-le-length, sum_by-cons, sum_by-set, sum_by_more}
pub use Rattle.std.proofs.lemmas.Nat.{and_le_l, and_le_r, or_of_8, pow_pos}
pub use Rattle.std.proofs.lemmas.Nat.Bits.{bit_at-lt, bit_at-pow_other, bit_at-pow_same, bit_at-suc, bit_at-trailing_zeros, bit_at-zero, bit_at_above, bit_at_and, bit_at_clear_other, bit_at_clear_same, bit_at_lowest, bit_at_not, bit_at_ones, bit_at_ones_above, bit_at_or, bit_at_set_other, bit_at_set_same, same_from_bits, same_from_bits_below, shr_and_one}
pub use Rattle.std.proofs.lemmas.Option.{get_or_from_slice_get, slice_get-map, slice_get_read, slice_get_within}
pub use Rattle.std.specs.Int.{bit_at, bit_not, trailing_zeros}
pub use Rattle.std.specs.List.{AllByRecursion, Contains, count_by, list_all, sum_by}
pub use Rattle.std.specs.List.Sorted.{IsStrictlySortedBy}
pub use Rattle.std.specs.Prelude.{IfSome, MatchOption, get_or, if◌then◌else◌, remove, slice_get, slice_index, slice_set, ◌↔◌}
pub use Rattle.tmw_cuts.proofs.Bits.{bit_at-before_of, bit_at-less_same, bit_at-more_other, bit_at-more_same, bit_small, mask-set, shift_is}
pub use Rattle.tmw_cuts.proofs.FirstMembers.{contains_cases, contains_here, contains_none, slice_get_some}
pub use Rattle.tmw_cuts.proofs.RegisterValues.{after-final, final, final-kept, index-set, length-after, length-end}
pub use Rattle.tmw_cuts.specs.Members.{AddsMember, members}
pub use Rattle.tmw_cuts.specs.RegisterMask.{IsMaskOf, have}
pub use Rattle.tmw_cuts.specs.StandsFor.{StandsFor, before_of, view_of, views, views_of}
pub use Rattle.tmw_cuts.specs.Views.{View, bit, effect_of, view}
pub use Rattle.tmw_cuts.specs.declared.effect.Effect.{Effect}
pub use Rattle.tmw_cuts.specs.declared.states.States.{States}
pub use Rattle.tmw_cuts.specs.declared.window.Window.{Window}
pub use Rattle.tmw_defs.proofs.Places.{Lies, lies-add, lies-transactions}
pub use Rattle.tmw_defs.proofs.Removals.{length-taken, list_all-places, list_all-remove}
pub use Rattle.tmw_defs.proofs.Weaker.{ends-by}
pub use Rattle.tmw_defs.specs.Counts.{is_committed}
pub use Rattle.tmw_defs.specs.Criteria.{EndsBy, ExplainsBy, LeadsBy}
pub use Rattle.tmw_defs.specs.Cuts.{is_cut}
pub use Rattle.tmw_defs.specs.History.{Txn, add_event, is_ended, is_over, operations, status_of, transactions, transactions_from}
pub use Rattle.tmw_defs.specs.Opaque.{Placed, PlacesEach, State, after, after_writes, is_legal, keeps_order, may_be, may_hold, precedes, reads_hold}
pub use Rattle.tmw_defs.specs.Outcomes.{Leads, Only, end_state}
pub use Rattle.tmw_defs.specs.QuietEvents.{is_pending}
pub use Rattle.tmw_defs.specs.Strict.{AreHeld}
pub use Rattle.tmw_defs.specs.declared.criterion.Criterion.{Criterion}
pub use Rattle.tmw_defs.specs.declared.criterion.Criterion.TheVariants.{Opacity, Strict}
pub use Rattle.tmw_defs.specs.declared.op.Op.{Op}
pub use Rattle.tmw_defs.specs.declared.status.Status.{Status}
pub use Rattle.tmw_events.specs.declared.event.Event.{Event}
pub use Rattle.tmw_search.specs.EndStates.{AreEnds, EndsOf, Replaces, TellsEnd}
pub use Rattle.tmw_search.specs.ForcedEnds.{AddsForced, AreAlike, IsOverlaid, Meets, NeedsOfStart, ShowsNeeds, TakesNeeds}
pub use Rattle.tmw_search.specs.LastWriters.{Adds, AreEndsFrom, ComeBefore, ComesBehind, ComesLast, Completes, EndWith, EndsByMore, EndsByReading, EndsFromAll, IsEndOf, IsPutLast, LeftByOne}
pub use Rattle.tmw_search.specs.Layers.{Follows, InLayer, IsFirst, LeavesNone, Makes, MakesAt, chosen, pair_cmp}
pub use Rattle.tmw_search.specs.LegalOrders.{Agree, AreRising, Begins, EndsAt, EndsIn, Explains, HasEight, HaveEight, IsLast, IsRoot, IsRow, IsSerial, Marks, NoneExplains, ReadsAll, Refutes, ShowWriters, ShowsStatus, has_asked, has_committed, members_of, orderly}
pub use Rattle.tmw_search.specs.NodeOrders.{AllOpen, Entails, FromIs, Gives, HasNone, Holds, In, IsBranch, IsFound, IsLegal, IsNode, IsOnly, IsSound, KeepsOthers, Leaves, LeavesOut, MayBe, MayGive, Needs, NoneMay, Reads, ReadsFrom, ReadsStart, Settles, TakesIn, Writes, effects, idle, left_at, looking, need_at, ordered}
pub use Rattle.tmw_search.specs.OneEnd.{AreForced, IsForced, is_blind_writer, is_writer}
pub use Rattle.tmw_search.specs.Precedence.{AllSettled, Before, Chosen, ChosenBy, Has, IfClear, IfStuck, IsBetween, IsOrder, IsOut, IsRanking, IsRead, Joins, Narrows, Out, Passes, SettledBy, SettledSource, Sourced, WithinSource, is_open, lives, opens, room, source_at}
unfoldable pub use Rattle.tmw_search.specs.Precedence.{room_of}
pub use Rattle.tmw_search.specs.declared.consequence.Consequence.TheVariants.{Clear, Never, Stuck}
pub use Rattle.tmw_search.specs.declared.node.Branch.{Branch}
pub use Rattle.tmw_search.specs.declared.node.Node.{Node}
pub use Rattle.tmw_search.specs.declared.source_choices.ReadSource.{ReadSource}
pub use Rattle.tmw_search.specs.declared.source_choices.ReadSource.TheVariants.{From, Open, Start}
