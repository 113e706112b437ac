-- Parts of bytes round the first of a byte: what stands before it has none, and that fixes the parts.
use Rattle.tmw_lines.proofs.Shared.{IsFree, List, [], ap, arith, drop, inl, inr, is_next, length, not, position_or_len, refl, suc, take, true, ℕ, ◌++◌, ◌+◌, ◌<◌, ◌==◌, ◌^◌, ◌∷◌, ◌≡◌}
use Rattle.std.proofs.lemmas.Bool.{and_from, and_parts, cases_Bool, eqb-true}
use Rattle.std.specs.Fmt.{decimal}
use Rattle.std.specs.Str.Parse.{AllDigits}
use Rattle.std.proofs.lemmas.Fmt.{decimal_is_IsNumeral}

pub free-append : (stop : ℕ) (xs ys : List ℕ) → IsFree stop xs → IsFree stop ys → IsFree stop (xs ++ ys)
free-append stop [] ys a b = b
free-append stop (x ∷ xs) ys a b =
    and_from (not (x == stop)) _ (and_parts (not (x == stop)) _ a).0
    (free-append stop xs ys (and_parts (not (x == stop)) _ a).1 b)

pub position_or_len-free : (stop : ℕ) (xs ys : List ℕ) → IsFree stop xs
    → position_or_len (λ byte. byte == stop) (xs ++ ys) ≡ length xs + position_or_len (λ byte. byte == stop) ys
position_or_len-free stop [] ys a = omega arith
position_or_len-free stop (x ∷ xs) ys a =
    grind (arith, (position_or_len-free stop xs ys (and_parts (not (x == stop)) _ a).1))

pub free-before : (stop : ℕ) (bytes : List ℕ) → IsFree stop (take (position_or_len (λ byte. byte == stop) bytes) bytes)
free-before stop [] = refl
free-before stop (x ∷ xs) =
    let n = position_or_len (λ byte. byte == stop) xs in
    let step : 1 + n ≡ suc n = omega arith in grind (arith, (free-before stop xs))

pub drop-before : (stop : ℕ) (bytes : List ℕ) → position_or_len (λ byte. byte == stop) bytes < length bytes
    → drop (position_or_len (λ byte. byte == stop) bytes) bytes
    ≡ stop ∷ drop (position_or_len (λ byte. byte == stop) bytes + 1) bytes
drop-before stop [] within = absurd (omega arith)
drop-before stop (x ∷ xs) within =
    let n = position_or_len (λ byte. byte == stop) xs in
    let step : 1 + n ≡ suc n = omega arith in
    let next : suc n + 1 ≡ suc (n + 1) = omega arith in
    elim (cases_Bool (x == stop)) [
      | inl h ↦ let e : x ≡ stop = eqb-true x stop h in rw h (ap (λ y. y ∷ xs) e)
      | inr h ↦ let less = rw (h, step) at within in cc (drop-before stop xs (omega arith))
    ]

-- what is free of `stop` and stands before it, or at the end, is fixed, and so is what follows
pub split_free : (stop : ℕ) (xs us ys vs : List ℕ) → IsFree stop xs → IsFree stop us
    → is_next stop ys ≡ true → is_next stop vs ≡ true → xs ++ ys ≡ us ++ vs → (xs ≡ us) × (ys ≡ vs)
split_free stop [] [] ys vs a b c d is = (refl, is)
split_free stop [] (u ∷ us) ys vs a b c d is = cc
split_free stop (x ∷ xs) [] ys vs a b c d is = grind arith
split_free stop (x ∷ xs) (u ∷ us) ys vs a b c d is =
    let tails : xs ++ ys ≡ us ++ vs = cc in
    let heads : x ≡ u = cc in
    let more = split_free stop xs us ys vs (and_parts (not (x == stop)) _ a).1 (and_parts (not (u == stop)) _ b).1 c d tails in
    (let k = more.0 in cc, more.1)

pub free-digits : (stop : ℕ) (ds : List ℕ) → stop < 48 → AllDigits 10 ds → IsFree stop ds
free-digits stop [] low digits = refl
free-digits stop (c ∷ cs) low digits = grind (arith, (free-digits stop cs low digits.1))

pub free-decimal : (stop n : ℕ) → stop < 48 → n < 2 ^ 64 → IsFree stop (decimal n)
free-decimal stop n low small = free-digits stop (decimal n) low (decimal_is_IsNumeral n small).0.1
