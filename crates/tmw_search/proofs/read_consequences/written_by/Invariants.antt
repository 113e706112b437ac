use Rattle.tmw_search.proofs.Shared.{In, Leaves, bit_at, effects, ℕ, ◌<◌, ◌≡◌}
use Rattle.tmw_search.proofs.read_consequences.written_by.Given as goal

abbrev pub invariant-loop-left : goal.invariant-loop-left
invariant-loop-left l =
    (k r : ℕ) → k < 8 → r < 8 → In l.mask k → Leaves (effects l.items) k r → (bit_at l.left k ≡ 0) → In l.written r

abbrev pub decreases-loop-left : goal.decreases-loop-left
decreases-loop-left l = l.left
