use Rattle.tmw_search.proofs.Shared.{In, Needs, bit_at, effects, length, slice_index, ℕ, ◌<◌, ◌↔◌, ◌≡◌}
use Rattle.tmw_search.proofs.root.reads_of.Given as goal

abbrev pub invariant-loop-left : goal.invariant-loop-left
invariant-loop-left l = record {
  size : length l.reads ≡ 8;
  among : (j : ℕ) → In l.left j → In l.mask j;
  done : (j r : ℕ) → j < 8 → r < 8
      → In (slice_index l.reads j) r ↔ (In l.mask j × (bit_at l.left j ≡ 0) × Needs (effects l.items) j r);
}

abbrev pub decreases-loop-left : goal.decreases-loop-left
decreases-loop-left l = l.left
