-- The empty list rises.
use Rattle.tmw_cuts.proofs.Shared.{IsStrictlySortedBy}
use Rattle.tmw_cuts.proofs.states.States.empty.Goals as goal

pub invariant_of-result : goal.invariant_of-result
unfolding IsStrictlySortedBy
invariant_of-result c = rw c.new.ensures.items (record { rising = tt })
