use Rattle.tmw_search.proofs.Shared.{In, bit_at, length, slice_index, ℕ, ◌<◌, ◌↔◌, ◌≡◌, ◌⊎◌}
use Rattle.tmw_search.proofs.search.add_writer.Given as goal

abbrev pub invariant-loop-left : goal.invariant-loop-left
invariant-loop-left l = record {
  size : length l.writers ≡ 8;
  made : (r k : ℕ) → r < 8 → In (slice_index l.writers r) k
      ↔ (In (slice_index l.fn.writers r) k ⊎ ((k ≡ l.i) × In l.fn.left r × (bit_at l.left r ≡ 0)));
  among : (r : ℕ) → In l.left r → In l.fn.left r;
}

abbrev pub decreases-loop-left : goal.decreases-loop-left
decreases-loop-left l = l.left
