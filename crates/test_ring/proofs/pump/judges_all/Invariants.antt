use Rattle.tmw_ring.specs.RingEnds.{ReaderOf}
use Rattle.test_ring.proofs.pump.judges_all.Given as goal

abbrev pub invariant-loop : goal.invariant-loop
invariant-loop l = ReaderOf l.ring l.pump.reader
