-- The registers of a mask, one at a time, and a mask with one more.
use Rattle.tmw_cuts.proofs.Shared.{Bool, List, State, ap, arith, bit_at, bit_at-zero, bit_at_set_other, bit_at_set_same, bit_or, cases_eq, chosen, eqb-true, get_or, get_or-set_other, get_or-set_same, have, if◌then◌else◌, length, length-set, map, put, range_with_len, refl, same_from_bits, same_lists, set, sym, true, w8, ℕ, ◌%◌, ◌*◌, ◌<◌, ◌==◌, ◌^◌, ◌||◌, ◌∙◌, ◌∷◌, ◌≡◌}
use Rattle.std.proofs.lemmas.List.FromFn.{get_or-map-range_with_len, length-map-range_with_len}

abbrev has_bit : ℕ → ℕ → Bool
has_bit mask r = bit_at mask r == 1

-- the mask with this register
abbrev pub with_bit : ℕ → ℕ → ℕ
with_bit mask r = bit_or mask (1 * 2 ^ r % 2 ^ 8)

-- the mask with this register, unless the other mask has it
abbrev pub with_new : ℕ → ℕ → ℕ → ℕ
with_new left mask r = if bit_at left r == 1 then mask else with_bit mask r

pub has_bit-with_bit : (mask r k : ℕ) → r < 8 → has_bit (with_bit mask r) k ≡ ((r == k) || has_bit mask k)
has_bit-with_bit mask r k below = grind (arith, (bit_at_set_same w8 mask r below), (bit_at_set_other w8 mask r below k))

pub length-chosen : (mask : ℕ) → length (chosen mask) ≡ 8
unfolding chosen
length-chosen mask = length-map-range_with_len (has_bit mask) 0 8

pub get_or-chosen : (mask r : ℕ) (d : Bool) → r < 8 → get_or (chosen mask) r d ≡ has_bit mask r
unfolding chosen
get_or-chosen mask r d below = get_or-map-range_with_len (has_bit mask) 0 8 r r d below (omega arith)

-- the registers with one more
pub chosen-with_bit : (mask r : ℕ) → r < 8 → chosen (with_bit mask r) ≡ set (chosen mask) r true
chosen-with_bit mask r below =
    let long : length (set (chosen mask) r true) ≡ 8 = length-set (chosen mask) r true ∙ length-chosen mask in
    same_lists _ _ (length-chosen (with_bit mask r) ∙ sym long) (λ k d within.
    let low : k < 8 = omega (arith, within, length-chosen (with_bit mask r)) in
    let new = get_or-chosen (with_bit mask r) k d low ∙ has_bit-with_bit mask r k below in
    let old = get_or-chosen mask k d low in
    let set_same = get_or-set_same (chosen mask) r true d (omega (arith, below, length-chosen mask)) in
    let set_other = get_or-set_other (chosen mask) r k true d in
    grind (arith, cases_eq))

-- a mask that has the register already
pub with_bit-has : (mask r : ℕ) → r < 8 → has_bit mask r ≡ true → with_bit mask r ≡ mask
with_bit-has mask r below is = same_from_bits _ _ (λ i.
    let same = bit_at_set_same w8 mask r below in
    let other = bit_at_set_other w8 mask r below i in
    let one = eqb-true (bit_at mask r) 1 is in
    grind arith)

have-no_bits : (rs vs : List ℕ) (s : State) → have (map (has_bit 0) rs) vs s ≡ true
have-no_bits (r ∷ rs) (v ∷ vs) (x ∷ s) = rw (bit_at-zero r) (have-no_bits rs vs s)
have-no_bits _ _ s = refl

put-no_bits : (rs vs : List ℕ) (s : State) → put (map (has_bit 0) rs) vs s ≡ s
put-no_bits (r ∷ rs) (v ∷ vs) (x ∷ s) = rw (bit_at-zero r) (ap (λ l. x ∷ l) (put-no_bits rs vs s))
put-no_bits _ _ s = refl

-- the mask of no register
pub have-chosen_none : (vs : List ℕ) (s : State) → have (chosen 0) vs s ≡ true
unfolding chosen
have-chosen_none vs s = have-no_bits (range_with_len 0 8) vs s

pub put-chosen_none : (vs : List ℕ) (s : State) → put (chosen 0) vs s ≡ s
unfolding chosen
put-chosen_none vs s = put-no_bits (range_with_len 0 8) vs s
