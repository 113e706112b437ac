use Rattle.tmw_ring.specs.RingEnds.{WriterOf}
use Rattle.test_ring.proofs.threads.record_all.Given as goal

abbrev pub invariant-loop-done : goal.invariant-loop-done
invariant-loop-done l = WriterOf l.ring l.writer
