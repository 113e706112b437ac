use Rattle.tmw_ring.specs.RingEnds.{WriterOf}
use Rattle.test_ring.proofs.threads.record_soon.Given as goal

abbrev pub invariant-loop : goal.invariant-loop
invariant-loop l = WriterOf l.ring l.writer
