use Rattle.std.proofs.Common.{◌<◌}
use Rattle.time_ring.specs.Counts.{HasTakenMore}
use Rattle.time_ring.proofs.take.take_one.Given as goal

abbrev pub invariant-loop : goal.invariant-loop
invariant-loop g l = HasTakenMore l.ring 0 l.fn.reader l.reader × (l.tries < 64)
