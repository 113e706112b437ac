use Rattle.tmw_witness.proofs.Shared.{ℕ, ◌<◌}
use Rattle.tmw_witness.specs.Witness.{FitsAt}
use Rattle.tmw_witness.proofs.witness.Witness.other_rank.Given as goal

abbrev pub invariant-loop-rank : goal.invariant-loop-rank
invariant-loop-rank l = (rank : ℕ) → rank < l.rank → FitsAt l.fn.self l.fn.item rank → ⊥
