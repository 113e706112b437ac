use Rattle.time_ring.specs.Counts.{HasTakenMore}
use Rattle.time_ring.proofs.take.take_all.Given as goal

abbrev pub invariant-loop-step : goal.invariant-loop-step
invariant-loop-step g l = HasTakenMore l.ring l.step l.fn.reader l.reader
