use Rattle.tmw_search.proofs.Shared.{length, slice_index, ℕ, ◌<◌, ◌≡◌, ◌≤◌}
use Rattle.tmw_search.proofs.Consequences.{joined}
use Rattle.tmw_search.proofs.precedence.join.Given as goal

abbrev pub invariant-loop-k : goal.invariant-loop-k
invariant-loop-k l =
    (length l.reach ≡ 8) × ((a : ℕ) → a < l.k → slice_index l.reach a ≡ joined l.place l.before (slice_index l.fn.reach a))
    × ((a : ℕ) → l.k ≤ a → slice_index l.reach a ≡ slice_index l.fn.reach a)
