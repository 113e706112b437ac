-- No state is out of order.
use Rattle.tmw_cuts.proofs.Shared.{IsStrictlySortedBy}
use Rattle.tmw_cuts.proofs.states.States.roomy.Goals as goal

pub invariant_of-result : goal.invariant_of-result
unfolding IsStrictlySortedBy
invariant_of-result c = rw c.in_ok-with_capacity.ensures.items (record { rising = tt })
