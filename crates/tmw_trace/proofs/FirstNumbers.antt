-- The digits at the front of bytes, and the number that they write up to a line feed.
use Rattle.tmw_trace.proofs.Shared.{List, [], ap, arith, decimal, drop, drop-cons, get_or, get_or-take, length, length-take-le, line, refl, subst, suc, sym, take, take_more, zero, ℕ, ◌*◌, ◌++◌, ◌+◌, ◌<◌, ◌^◌, ◌∙◌, ◌∷◌, ◌≡◌, ◌≤◌}
use Rattle.std.specs.Char.{digit_value}
use Rattle.std.specs.Str.Parse.{AllDigits, digits_value}
use Rattle.std.proofs.lemmas.Fmt.{decimal-digits_value, decimal_digit}
use Rattle.std.proofs.lemmas.Int.Digits.{digits_push, digits_value_more}
use Rattle.std.proofs.lemmas.Str.Parse.{IsNumeralModel, numerals_by_value, tells_digits, digits_value_short}
use Rattle.tmw_lines.proofs.BufferLines.{line-split}

numerals : IsNumeralModel (AllDigits 10) (digits_value 10)
numerals = numerals_by_value (AllDigits 10) tells_digits

-- so many bytes at the front are digits, and write this number
pub record AreDigits (number index : ℕ) (bytes : List ℕ) : Type 0 where
  pub value : number ≡ digits_value 10 (take index bytes)
  pub digits : AllDigits 10 (take index bytes)

-- so many digits write no larger number
pub few_digits : (number index most : ℕ) (bytes : List ℕ) → AreDigits number index bytes → index ≤ length bytes → index ≤ most
    → number < 10 ^ most
few_digits number index most bytes are within few =
    let short : length (take index bytes) ≤ most = omega (arith, length-take-le index bytes within, few) in
    subst (λ n. n < 10 ^ most) (sym are.value) (digits_value_short numerals (take index bytes) most are.digits short)

pub AreDigits-more : (number index digit : ℕ) (bytes : List ℕ) → AreDigits number index bytes → index < length bytes
    → digit_value (get_or bytes index 0) ≡ digit → digit < 10 → AreDigits (number * 10 + digit) (index + 1) bytes
AreDigits-more number index digit bytes are within is small = record {
  value = sym (digits_value_more 10 bytes index within ∙ ap (λ n. n * 10 + digit_value (get_or bytes index 0)) (sym are.value)
      ∙ ap (λ d. number * 10 + d) is);
  digits = rw (take_more bytes index 0 within) (digits_push 10 (take index bytes) (get_or bytes index 0) are.digits (rw is small));
}

-- a line feed does not stand at the front, where a digit does
some_digits : (index : ℕ) (bytes : List ℕ) → 48 < get_or bytes 0 0 → get_or bytes index 0 ≡ 10 → 0 < index
some_digits zero bytes above feed = absurd (omega (arith, above, feed))
some_digits (suc index) bytes above feed = omega arith

-- digits that begin with no 0, and the line feed behind them, are the line of the number that they write
pub number-line : (number index : ℕ) (bytes : List ℕ) → AreDigits number index bytes → index ≤ 19 → index < length bytes
    → 48 < get_or bytes 0 0 → get_or bytes index 0 ≡ 10 → bytes ≡ line (decimal number) ++ drop (index + 1) bytes
number-line number index bytes are few within above feed =
    let some = some_digits index bytes above feed in
    let counted = length-take-le index bytes (omega (arith, within)) in
    let first = get_or-take index bytes 0 0 some in
    let plain : get_or (take index bytes) 0 0 ≡ 48 → length (take index bytes) ≡ 1 = λ zero. absurd (omega (arith, first, zero, above)) in
    let small : number < 10 ^ 19 = few_digits number index 19 bytes are (omega (arith, within)) few in
    let text : take index bytes ≡ decimal number =
    sym (ap decimal are.value ∙ decimal-digits_value numerals (take index bytes) are.digits (omega (arith, counted, some)) plain
    (omega (arith, are.value, small))) in
    let step : suc index ≡ index + 1 = omega arith in
    let next : drop index bytes ≡ 10 ∷ drop (index + 1) bytes = rw (feed, step) at (drop-cons bytes index 0 within) in
    line-split bytes (decimal number) index next text

-- the line of the number 0
pub zero-line : (bytes : List ℕ) → 2 ≤ length bytes → get_or bytes 0 0 ≡ 48 → get_or bytes 1 0 ≡ 10
    → bytes ≡ line (decimal 0) ++ drop 2 bytes
zero-line [] long first second = absurd (omega (arith, long))
zero-line (a ∷ []) long first second = absurd (omega (arith, long))
zero-line (a ∷ b ∷ bytes) long first second = rw (first, second, decimal_digit 0 (omega arith)) refl
