use Rattle.tmw_ring.proofs.Shared.{into_iter_items, into_iter_len, length, map, part_of, ◌++◌, ◌≡◌}
use Rattle.tmw_ring.proofs.settle.join_all.Given as goal

abbrev pub invariant-loop-writer : goal.invariant-loop-writer
invariant-loop-writer l =
    (l.seat.table_id ≡ l.fn.seat.table_id)
    × (l.seat.me ≡ (l.fn.seat.me.0 ++ map part_of l.yielded, l.fn.seat.me.1))
    × (l.yielded ++ into_iter_items l.writer-iterator ≡ l.fn.writers.items)
    × (into_iter_len l.writer-iterator ≡ length (into_iter_items l.writer-iterator))
