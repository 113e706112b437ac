use Rattle.time_ring.specs.Counts.{HasMade}
use Rattle.time_ring.proofs.record.record_all.Given as goal

abbrev pub invariant-loop-value : goal.invariant-loop-value
invariant-loop-value g l = HasMade l.ring l.value l.fn.writer l.writer
