-- No state is out of order.
use Rattle.tmw_cuts.proofs.Shared.{IsStrictlySortedBy}
use Rattle.tmw_cuts.proofs.states.States.clear.Goals as goal

pub invariant_of-self : goal.invariant_of-self
unfolding IsStrictlySortedBy
invariant_of-self c = rw c.clear.ensures.items (record { rising = tt })
