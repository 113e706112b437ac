-- The verdict where nothing is wrong is that of the criterion, and no verdict that something is.
use Rattle.tmw_monitor.proofs.Shared.{Criterion, OpaqueSoFar, StrictSoFar, Verdict, arith, so_far, ◌≡◌, ◌⊎◌}

pub so_far-apart : (criterion : Criterion) (verdict : Verdict) → (verdict ≡ OpaqueSoFar → ⊥) → (verdict ≡ StrictSoFar → ⊥)
    → verdict ≡ so_far criterion → ⊥
so_far-apart criterion verdict opaque strict is = grind arith

-- a verdict is that of a history in which nothing is wrong, or not
pub so_far-or : (criterion : Criterion) (verdict : Verdict) → (verdict ≡ so_far criterion) ⊎ (verdict ≡ so_far criterion → ⊥)
so_far-or criterion verdict = grind arith
