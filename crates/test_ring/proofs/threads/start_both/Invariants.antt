use Rattle.std.proofs.Common.{All}
use Rattle.tmw_ring.specs.RingEnds.{WriterOf}
use Rattle.test_ring.proofs.threads.start_both.Given as goal

abbrev pub invariant-loop : goal.invariant-loop
invariant-loop g l = All (WriterOf l.ring) l.writers.items
