use Rattle.tmw_witness.proofs.Shared.{bit, bit_at, committed_of, rank_of, ℕ, ◌+◌, ◌<◌, ◌≡◌, ◌≤◌}
use Rattle.tmw_witness.specs.Witness.{ComesAbove}
use Rattle.tmw_witness.proofs.witness.Witness.lowest.Given as goal

-- It is no lower than those up to this place that precede the transaction, and no higher than it has to be.
abbrev pub invariant-loop-place : goal.invariant-loop-place
invariant-loop-place l = record {
  above : (j : ℕ) → j < l.place → bit_at l.fn.before j ≡ 1 → rank_of l.fn.self j + bit (committed_of l.fn.self j) ≤ l.low;
  least : (rank : ℕ) → ComesAbove l.fn.self l.fn.before rank → l.low ≤ rank;
}
