-- The bits of a mask of transactions, one by one, and a mask with one more.
use Rattle.tmw_cuts.proofs.Shared.{Bool, List, Some, Txn, [], and_pow, arith, before_of, bit, bit_at, bit_at-pow_other, bit_at-pow_same, bit_at-suc, bit_at_above, bit_at_lowest, bit_at_or, bit_or, mod-eq_of_lt, pow-suc, pow_mono, precedes, refl, slice_get, suc, sym, zero, ℕ, ◌%◌, ◌*◌, ◌+◌, ◌-◌, ◌/◌, ◌<◌, ◌^◌, ◌∙◌, ◌∷◌, ◌≡◌, ◌≤◌}
use Rattle.std.proofs.lemmas.Nat.{or_disjoint}

low_bit : (b : Bool) (n : ℕ) → (bit b + 2 * n) % 2 ≡ bit b
low_bit b n = grind arith

pub high_bits : (b : Bool) (n : ℕ) → (bit b + 2 * n) / 2 ≡ n
high_bits b n = grind arith

-- bit j of what is shown of one tells whether transaction j precedes it
pub bit_at-before_of : (ts : List Txn) (u t : Txn) (j : ℕ) → slice_get ts j ≡ Some t → bit_at (before_of ts u) j ≡ bit (precedes t u)
bit_at-before_of [] u t j at = cc
bit_at-before_of (x ∷ ts) u t zero at = grind (arith, bit_at_lowest, low_bit)
bit_at-before_of (x ∷ ts) u t (suc j) at = grind (arith, bit_at-suc, high_bits, (bit_at-before_of ts u t j))

more_or : (mask j : ℕ) → bit_at mask j ≡ 0 → mask + 2 ^ j ≡ bit_or mask (2 ^ j)
more_or mask j none = sym (or_disjoint mask (2 ^ j) (and_pow mask j ∙ rw none (omega arith)))

-- bits of a mask with one more
pub bit_at-more_same : (mask j : ℕ) → bit_at mask j ≡ 0 → bit_at (mask + 2 ^ j) j ≡ 1
bit_at-more_same mask j none = rw (more_or mask j none, bit_at_or mask (2 ^ j) j, none, bit_at-pow_same j) refl

pub bit_at-more_other : (mask j i : ℕ) → bit_at mask j ≡ 0 → (i ≡ j → ⊥) → bit_at (mask + 2 ^ j) i ≡ bit_at mask i
bit_at-more_other mask j i none other =
    rw (more_or mask j none, bit_at_or mask (2 ^ j) i, bit_at-pow_other j i other) (omega arith)

-- the bit of a place below eight
pub shift_is : (place : ℕ) → place < 8 → 1 * 2 ^ place % 2 ^ 8 ≡ 2 ^ place
shift_is place within = grind (arith, mod-eq_of_lt, (pow_mono {i = place} {j = 7} (omega (arith, within))))

-- a mask with one bit more
pub mask-set : (mask place : ℕ) → place < 8 → bit_at mask place ≡ 0 → bit_or mask (1 * 2 ^ place % 2 ^ 8) ≡ mask + 2 ^ place
mask-set mask place within new = rw (shift_is place within) (sym (more_or mask place new))

-- bits of a mask with one less
pub bit_at-less_same : (mask j : ℕ) → bit_at mask j ≡ 1 → 2 ^ j ≤ mask → bit_at (mask - 2 ^ j) j ≡ 0
bit_at-less_same mask zero one small = grind (arith, bit_at_lowest)
bit_at-less_same mask (suc j) one small =
    let half : (mask - 2 ^ suc j) / 2 ≡ mask / 2 - 2 ^ j = omega (arith, pow-suc 2 j) in
    let less = bit_at-less_same (mask / 2) j (sym (bit_at-suc mask j) ∙ one) (omega (arith, pow-suc 2 j, small)) in
    grind (arith, bit_at-suc)

-- a bit of a mask is no more than the mask
pub bit_small : (mask place : ℕ) → bit_at mask place ≡ 1 → 2 ^ place ≤ mask
bit_small mask place one = grind (arith, bit_at_above)
