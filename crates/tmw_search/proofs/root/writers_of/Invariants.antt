use Rattle.tmw_search.proofs.Shared.{In, Leaves, bit_at, effects, slice_index, ℕ, ◌<◌, ◌↔◌, ◌≡◌}
use Rattle.tmw_search.proofs.root.writers_of.Given as goal

abbrev pub invariant-loop-left : goal.invariant-loop-left
invariant-loop-left l = record {
  among : (j : ℕ) → In l.left j → In l.mask j;
  done : (r k : ℕ) → r < 8 → k < 8
      → In (slice_index l.writers r) k ↔ (In l.mask k × (bit_at l.left k ≡ 0) × Leaves (effects l.items) k r);
}

abbrev pub decreases-loop-left : goal.decreases-loop-left
decreases-loop-left l = l.left
