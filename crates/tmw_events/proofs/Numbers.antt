-- The number that digits write, digit by digit, and the one text of a number.
use Rattle.tmw_events.proofs.Shared.{AllDigits, IfNone, IfSome, List, None, Option, Some, SomeIff, [], ap, arith, digits_value, digits_value_after, drop, drop-cons, get_or, length, suc, sym, zero, ℕ, ◌*◌, ◌+◌, ◌<◌, ◌^◌, ◌∷◌, ◌≡◌, ◌≤◌}
use Rattle.std.specs.Char.{digit_value}
use Rattle.std.specs.Fmt.{decimal}
use Rattle.std.proofs.lemmas.Fmt.{decimal-digits_value, decimal_is_IsNumeral, decimal_digit, decimal_nonempty, first_decimal}
use Rattle.std.proofs.lemmas.Str.Parse.{IsNumeralModel, numerals_by_value, tells_digits}

-- more digits write no smaller number
pub le_digits_value_after : (n : ℕ) (ds : List ℕ) → n ≤ digits_value_after 10 n ds
le_digits_value_after n [] = omega arith
le_digits_value_after n (c ∷ cs) = omega (arith, le_digits_value_after (n * 10 + digit_value c) cs)

numerals : IsNumeralModel (AllDigits 10) (digits_value 10)
numerals = numerals_by_value (AllDigits 10) tells_digits

-- digits that write too large a number already
pub too_large : (n : ℕ) (ds : List ℕ) (i v : ℕ) → i < length ds → digits_value_after 10 n (drop i ds) ≡ v
    → 2 ^ 64 ≤ n * 10 + digit_value (get_or ds i 0) → v < 2 ^ 64 → ⊥
too_large n ds i v within is large small =
    let e = rw (drop-cons ds i 0 within) at is in
    absurd (omega (arith, e, le_digits_value_after (n * 10 + digit_value (get_or ds i 0)) (drop (suc i) ds)))

-- no number is written by no digit
pub empty_no_decimal : (bytes : List ℕ) (n : ℕ) → length bytes ≡ 0 → n < 2 ^ 64 → bytes ≡ decimal n → ⊥
empty_no_decimal bytes n empty small is = absurd (omega (arith, decimal_nonempty n small, ap length is))

-- no number is written with a leading zero
pub zero_no_decimal : (bytes : List ℕ) (n : ℕ) → get_or bytes 0 0 ≡ 48 → 1 < length bytes → n < 2 ^ 64
    → bytes ≡ decimal n → ⊥
zero_no_decimal bytes zero first long small is =
    absurd (omega (arith, ap length is, ap length (decimal_digit 0 (omega arith))))
zero_no_decimal bytes (suc n) first long small is =
    let above = first_decimal (suc n) (omega arith) small in
    absurd (omega (arith, first, above, ap (λ ds. get_or ds 0 0) is))

-- digits without a leading zero are the text of the number that they write
pub decimal_from_digits : (bytes : List ℕ) (r : Option ℕ) → 0 < length bytes → (get_or bytes 0 0 ≡ 48 → length bytes ≡ 1)
    → SomeIff r (AllDigits 10 bytes × (digits_value 10 bytes < 2 ^ 64)) (digits_value 10 bytes)
    → IfSome r (λ n. bytes ≡ decimal n)
decimal_from_digits bytes None some plain h = tt
decimal_from_digits bytes (Some n) some plain h =
    rw h.1 (sym (decimal-digits_value numerals bytes h.0.0 some plain h.0.1))

-- where that fails, they are no number's text
pub no_decimal_from_digits : (bytes : List ℕ) (r : Option ℕ)
    → SomeIff r (AllDigits 10 bytes × (digits_value 10 bytes < 2 ^ 64)) (digits_value 10 bytes)
    → IfNone r ((n : ℕ) → n < 2 ^ 64 → bytes ≡ decimal n → ⊥)
no_decimal_from_digits bytes None h =
    λ n small is. let k = decimal_is_IsNumeral n small in h (rw is (k.0.1, omega (arith, k.1)))
no_decimal_from_digits bytes (Some n) h = tt
