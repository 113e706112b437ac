-- One state rises.
use Rattle.tmw_cuts.proofs.Shared.{IsStrictlySortedBy}
use Rattle.tmw_cuts.proofs.states.States.only.Goals as goal

pub invariant_of-result : goal.invariant_of-result
unfolding IsStrictlySortedBy
invariant_of-result c = rw (c.push_reserved.ensures.items, c.in_ok-one.ensures.items) (record { rising = (tt, tt) })
