use Rattle.tmw_search.proofs.Shared.{In, effects, left_at, ℕ, ◌<◌, ◌≡◌}
use Rattle.tmw_search.proofs.forced_ends.is_left.Given as goal

abbrev pub invariant-loop-left : goal.invariant-loop-left
invariant-loop-left l = record {
  among : (k : ℕ) → In l.left k → In l.writers k;
  none : (k : ℕ) → k < 8 → In l.writers k → (In l.left k → ⊥) → left_at (effects l.items) k l.register ≡ l.value → ⊥;
}

abbrev pub decreases-loop-left : goal.decreases-loop-left
decreases-loop-left l = l.left
