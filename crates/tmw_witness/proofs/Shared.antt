-- What the proofs of this crate take from the libraries, from the crates below and from its specs.
pub use Rattle.std.proofs.Common.{Bool, IfSome, IsTrue, List, None, Option, Some, [], ap, arith, bit_or, false, if◌then◌else◌, inl, inr, length, map, pow-suc, refl, rules, subst, suc, sym, true, w8, zero, ℕ, ◌%◌, ◌*◌, ◌++◌, ◌+◌, ◌-◌, ◌/◌, ◌<◌, ◌^◌, ◌∙◌, ◌∷◌, ◌≡◌, ◌≤◌, ◌⊎◌}
pub use Rattle.std.proofs.Math.Nat.{div-lt_iff_lt-mul, mod-eq_of_lt}
pub use Rattle.std.proofs.lemmas.Bool.{and_parts, cases_Bool, cases_lt, eqb-true, ltb-true, not-true}
pub use Rattle.std.proofs.lemmas.List.{append-nil, get_or-set_other, get_or-set_same, length-append, length-map, set-set}
pub use Rattle.std.proofs.lemmas.Nat.Bits.{bit_at-zero, bit_at_above, bit_at_ones, bit_at_set_other, bit_at_set_same, shr_and_one}
pub use Rattle.std.proofs.lemmas.Option.{slice_get_within}
pub use Rattle.std.specs.Int.{bit_at}
pub use Rattle.std.specs.List.{Contains}
pub use Rattle.std.specs.Prelude.{slice_get, slice_set}
pub use Rattle.tmw_cuts.proofs.FirstMembers.{slice_get_some}
pub use Rattle.tmw_cuts.proofs.Moves.{asked_on, ends_at}
pub use Rattle.tmw_cuts.proofs.NextViews.{next_view, ops_of, place_of, views_after}
pub use Rattle.tmw_cuts.proofs.OneEventMore.{found-begun, found-moved, length-views_of, live-next, moves}
pub use Rattle.tmw_cuts.specs.StandsFor.{IsNext, StandsFor, count_of, views, views_of}
pub use Rattle.tmw_cuts.specs.Views.{View, bit, completed_mask, new_view, view}
pub use Rattle.tmw_cuts.specs.declared.turn.Move.TheVariants.{Answer, Ask, Begin, End}
pub use Rattle.tmw_defs.proofs.QuietProof.{left_out}
pub use Rattle.tmw_defs.specs.History.{Txn, is_ended, is_over, status_after, status_of, transactions}
pub use Rattle.tmw_defs.specs.Opaque.{State, after, after_writes, may_hold, precedes, reads_hold}
pub use Rattle.tmw_defs.specs.Outcomes.{Ends, Leads}
pub use Rattle.tmw_events.specs.declared.event.Kind.TheVariants.{C}
pub use Rattle.tmw_search.proofs.Bits.{bit_cases, bit_within, masks, same_place}
pub use Rattle.tmw_search.proofs.LayerSteps.{leads-first, shown_bit}
pub use Rattle.tmw_search.proofs.WindowViews.{shown_at, shows-views_of}
pub use Rattle.tmw_search.specs.Layers.{MayCome, chosen}
pub use Rattle.tmw_search.specs.NodeOrders.{In}
pub use Rattle.tmw_witness.specs.EventAtPlace.{PrecedesNone, TurnsAt}
pub use Rattle.tmw_witness.specs.Witness.{Below, ExplainsWith, HasWriter, IsWitness, MayStand, PlacesThose, Stands, Witnesses, committed_of, rank_of, state_of}
pub use Rattle.tmw_witness.specs.declared.witness.Witness.{Witness}
