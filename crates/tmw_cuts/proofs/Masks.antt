-- A bit is at most 1.
use Rattle.tmw_cuts.proofs.Shared.{Bool, arith, bit, false, true, ◌≤◌}

pub bit-le : (b : Bool) → bit b ≤ 1
bit-le true = omega arith
bit-le false = omega arith
