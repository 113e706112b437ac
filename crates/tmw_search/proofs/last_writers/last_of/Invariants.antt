use Rattle.tmw_search.proofs.Shared.{ComesBehind, In, ℕ, ◌<◌}
use Rattle.tmw_search.proofs.last_writers.last_of.Given as goal

abbrev pub invariant-loop-left : goal.invariant-loop-left
invariant-loop-left l = record {
  among : (i : ℕ) → In l.left i → In l.writers i;
  others : (i : ℕ) → i < 8 → In l.writers i → (In l.left i → ⊥) → ComesBehind l.reach l.writers i → ⊥;
}

abbrev pub decreases-loop-left : goal.decreases-loop-left
decreases-loop-left l = l.left
