use Rattle.tmw_ring.proofs.Shared.{rules}
use Rattle.tmw_ring.proofs.ring_ends.Ring.record.Goals as goal

pub returns-clause-ok : goal.returns-clause-ok
returns-clause-ok c = search rules

pub returns-clause-err : goal.returns-clause-err
returns-clause-err c = search rules
