-- The mask of a power of two divides by it.
use lib.Bits.{and_mask}
use Rattle.tmw_ring.proofs.Shared.{ap, arith, bit_and, mod-eq_of_lt, ℕ, ◌%◌, ◌*◌, ◌-◌, ◌<◌, ◌^◌, ◌∙◌, ◌≡◌}
use Rattle.std.proofs.Math.Pow.{pow-lt}
use Rattle.tmw_ring.proofs.cell_layout.cell_of.Goals as goal

-- one shifted by fewer than 64 bits loses none
shifted : (k : ℕ) → k < 64 → (1 * 2 ^ k) % 2 ^ 64 ≡ 2 ^ k
shifted k few = ap (λ n. n % 2 ^ 64) (omega arith) ∙ mod-eq_of_lt (pow-lt few)

masked : (place cells power k : ℕ) → k < 64 → power ≡ (1 * 2 ^ k) % 2 ^ 64 → power ≡ cells → bit_and place (power - 1) ≡ place % cells
masked place cells power k few is same = grind (arith, shifted, and_mask)

pub returns-then-power-cells : goal.returns-then-power-cells
returns-then-power-cells c = grind (arith, masked)
