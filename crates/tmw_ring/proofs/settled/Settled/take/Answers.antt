use Rattle.tmw_ring.proofs.Shared.{arith}
use Rattle.tmw_ring.proofs.NextEvent.{next_left, some_event}
use Rattle.tmw_ring.proofs.settled.Settled.take.Goals as goal

pub returns-clause-some : goal.returns-clause-some
returns-clause-some c = grind (arith, next_left)

pub returns-clause-none : goal.returns-clause-none
returns-clause-none c = grind (arith, some_event)
