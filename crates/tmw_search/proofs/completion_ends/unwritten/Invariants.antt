use Rattle.tmw_search.proofs.Shared.{In, slice_index, ℕ, ◌<◌}
use Rattle.tmw_search.proofs.completion_ends.unwritten.Given as goal

abbrev pub invariant-loop-r : goal.invariant-loop-r
invariant-loop-r l = (q : ℕ) → q < l.r → (In l.registers q → ⊥) → (k : ℕ) × (k < 8) × In (slice_index l.writers q) k
