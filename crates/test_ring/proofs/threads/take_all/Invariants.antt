use Rattle.tmw_ring.specs.RingEnds.{ReaderOf}
use Rattle.test_ring.proofs.threads.take_all.Given as goal

abbrev pub invariant-loop : goal.invariant-loop
invariant-loop l = ReaderOf l.ring l.reader
