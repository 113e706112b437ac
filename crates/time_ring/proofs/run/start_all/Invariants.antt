use Rattle.std.proofs.Common.{◌≡◌, ◌≤◌, ◌+◌, length, All}
use Rattle.std.specs.Vec.Iter.{into_iter_items, into_iter_len}
use Rattle.tmw_ring.specs.RingEnds.{WriterOf}
use Rattle.time_ring.proofs.run.start_all.Given as goal

abbrev pub invariant-loop-writer : goal.invariant-loop-writer
invariant-loop-writer g l =
    All (WriterOf l.ring) (into_iter_items l.writer-iterator)
    × (l.started + length (into_iter_items l.writer-iterator) ≤ length l.fn.writers.items)
    × (into_iter_len l.writer-iterator ≡ length (into_iter_items l.writer-iterator))
