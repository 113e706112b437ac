use Rattle.std.proofs.Common.{◌<◌}
use Rattle.time_ring.specs.Counts.{HasMade}
use Rattle.time_ring.proofs.record.record_one.Given as goal

abbrev pub invariant-loop : goal.invariant-loop
invariant-loop g l = HasMade l.ring 0 l.fn.writer l.writer × (l.tries < 64)
