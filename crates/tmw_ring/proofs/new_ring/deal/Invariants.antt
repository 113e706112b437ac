use Rattle.tmw_ring.proofs.Shared.{AreNewWriters, Reads, [], length, new_reader, new_writers, vec_capacity, ◌-◌, ◌∷◌, ◌≡◌}
use Rattle.tmw_ring.proofs.new_ring.deal.Given as goal

abbrev pub invariant-loop-number : goal.invariant-loop-number
invariant-loop-number l =
    (l.seat.table_id ≡ l.fn.seat.table_id)
    × (l.seat.me ≡ (Reads (new_reader l.ring.size) ∷ new_writers l.ring.size l.number (l.ring.size.writers - l.number), []))
    × (length l.writers.items ≡ l.number)
    × (vec_capacity l.writers ≡ l.count)
    × AreNewWriters l.ring l.writers.items
