-- The other's states rise, and so does no state.
use Rattle.tmw_cuts.proofs.Shared.{IsStrictlySortedBy, List, State, [], cond_both, is_ok, nat_cmp, slice_cmp}
use Rattle.tmw_cuts.proofs.states.States.copy_from.Goals as goal

abbrev none : List State
none = []

none_rises : IsStrictlySortedBy (slice_cmp nat_cmp) none
unfolding IsStrictlySortedBy
none_rises = tt

pub invariant_of-self : goal.invariant_of-self
invariant_of-self c =
    rw (c.extend_from_slice-room.ensures.items, c.clear.ensures.items) (record {
      rising = cond_both (is_ok c.extend_from_slice-room.result) c.states.result.now none (IsStrictlySortedBy (slice_cmp nat_cmp))
          (λ _. c.states.ensures.rising) (λ _. none_rises);
    })
