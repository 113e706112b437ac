-- The first of the values in a header, and the values that a loop has read.
use Rattle.tmw_trace.proofs.Shared.{All, All-set, List, [], add-one, and_parts, ap, append-nil, append_assoc, are_zeros, arith, cases_Bool, decimal, drop, drop-cons, drop-set-lt, flat_map-append, get_or, inl, inr, length, length-set, not, position_or_len, refl, set, suc, sym, take, take-append-drop, take_more_set, true, values_text, ℕ, ◌++◌, ◌+◌, ◌<◌, ◌==◌, ◌^◌, ◌∙◌, ◌∷◌, ◌≡◌, ◌≤◌}
use Rattle.tmw_trace.specs.FirstValue.{IsFirstValue, IsNoFirstValue}
use Rattle.std.proofs.Math.Seq.{take-append_seam}
use Rattle.std.proofs.lemmas.List.Sums.{prefix_len-le-length}
use Rattle.tmw_lines.specs.FreeParts.{is_next}
use Rattle.tmw_trace.specs.ValueTextInjectivity.{next-values}
use Rattle.tmw_lines.proofs.Splits.{free-decimal, position_or_len-free, split_free}

next-before : (stop : ℕ) (bytes : List ℕ) → is_next stop (drop (position_or_len (λ byte. byte == stop) bytes) bytes) ≡ true
next-before stop [] = refl
next-before stop (x ∷ xs) =
    let step : 1 + position_or_len (λ byte. byte == stop) xs ≡ suc (position_or_len (λ byte. byte == stop) xs) = omega arith in
    elim (cases_Bool (x == stop)) [ inl h ↦ rw h h | inr h ↦ rw (h, step) (next-before stop xs) ]

before-next : (stop : ℕ) (bytes : List ℕ) → is_next stop bytes ≡ true → position_or_len (λ byte. byte == stop) bytes ≡ 0
before-next stop [] next = refl
before-next stop (byte ∷ bytes) next = rw next refl

pub first_value-some : (bytes : List ℕ) (value n : ℕ) → value < 2 ^ 64 → 1 ≤ length bytes → get_or bytes 0 0 ≡ 32
    → n ≡ position_or_len (λ byte. byte == 32) (drop 1 bytes) → take n (drop 1 bytes) ≡ decimal value
    → IsFirstValue value (n + 1) bytes
first_value-some [] value n small some first at text = absurd (omega arith)
first_value-some (b ∷ bs) value n small some first at text =
    let step : n + 1 ≡ suc n = omega arith in
    record {
      small = small;
      within = omega (arith, at, prefix_len-le-length (λ byte. not (byte == 32)) bs);
      text = rw (step, first, text) refl;
      parted = rw (step, at) (next-before 32 bs);
    }

pub first_value-none : (bytes : List ℕ) (n : ℕ) → n ≡ position_or_len (λ byte. byte == 32) (drop 1 bytes)
    → ((value : ℕ) → value < 2 ^ 64 → take n (drop 1 bytes) ≡ decimal value → ⊥) → IsNoFirstValue bytes
first_value-none bytes n at none = λ value rest small next is. none value small
    (let e : drop 1 bytes ≡ decimal value ++ rest = ap (λ xs. drop 1 xs) is in
    let k = position_or_len-free 32 (decimal value) rest (free-decimal 32 value (omega arith) small) in
    let z = before-next 32 rest next in
    let w = rw e at at in
    let m : n ≡ length (decimal value) = omega (arith, w, k, z) in
    rw (e, m) (take-append_seam (decimal value) rest))

-- the first value, and what follows it
pub value-split : (value count : ℕ) (bytes : List ℕ) → IsFirstValue value count bytes
    → bytes ≡ (32 ∷ decimal value) ++ drop count bytes
value-split value count bytes first = sym (rw first.text at (take-append-drop count bytes))

-- only one list of bytes follows a value at the front
pub value-rest : (value count : ℕ) (bytes : List ℕ) (other : ℕ) (rest : List ℕ) → IsFirstValue value count bytes
    → other < 2 ^ 64 → is_next 32 rest ≡ true → bytes ≡ 32 ∷ decimal other ++ rest → drop count bytes ≡ rest
value-rest value count bytes other rest first small next is =
    (split_free 32 (decimal value) (decimal other) (drop count bytes) rest (free-decimal 32 value (omega arith) first.small)
    (free-decimal 32 other (omega arith) small) first.parted next
    (ap (λ xs. drop 1 xs) (sym (value-split value count bytes first) ∙ is))).1

-- this many values of 64 bits are read from the bytes, the rest is to be read, and no other values are the bytes' values
pub record AreRead (count index : ℕ) (values rest bytes : List ℕ) : Type 0 where
  pub eight : length values ≡ 8
  pub fit : All (λ value. value < 2 ^ 64) values
  pub text : bytes ≡ values_text (take index values) ++ rest
  pub zeros : are_zeros (drop index values) ≡ true
  pub left : (all : List ℕ) → length all ≡ count → All (λ value. value < 2 ^ 64) all → bytes ≡ values_text all
      → rest ≡ values_text (drop index all)

drop_step : (xs : List ℕ) (i : ℕ) → i < length xs → drop i xs ≡ get_or xs i 0 ∷ drop (i + 1) xs
drop_step xs i within = drop-cons xs i 0 within ∙ ap (λ n. get_or xs i 0 ∷ drop n xs) (sym (add-one i))

pub AreRead-more : (count index value n : ℕ) (values rest bytes : List ℕ) → AreRead count index values rest bytes
    → index < count → count ≤ 8 → IsFirstValue value n rest
    → AreRead count (index + 1) (set values index value) (drop n rest) bytes
AreRead-more count index value n values rest bytes r more few first =
    let within : index < length values = omega (arith, r.eight) in
    let later : index < index + 1 = omega arith in
    let zeros = rw (drop_step values index within) at r.zeros in
    record {
      eight = simp length-set r.eight;
      fit = All-set (λ v. v < 2 ^ 64) values index value first.small r.fit;
      text = rw (take_more_set values index value within, flat_map-append (λ v. 32 ∷ decimal v) (take index values) (value ∷ []))
          (r.text ∙ ap (λ xs. values_text (take index values) ++ xs) (value-split value n rest first)
          ∙ simp (append_assoc, append-nil));
      zeros = rw drop-set-lt (and_parts _ _ zeros).1;
      left = λ all counted fit is.
          let here : index < length all = omega (arith, counted) in
          let e = rw (drop_step all index here) at (r.left all counted fit is) in
          value-rest value n rest (get_or all index 0) (values_text (drop (index + 1) all)) first (fit index 0 here)
          (next-values (drop (index + 1) all)) e;
    }

pub AreRead-none : (count index : ℕ) (values rest bytes : List ℕ) → AreRead count index values rest bytes
    → index < count → IsNoFirstValue rest → (all : List ℕ) → length all ≡ count → All (λ value. value < 2 ^ 64) all
    → bytes ≡ values_text all → ⊥
AreRead-none count index values rest bytes r more none = λ all counted fit is.
    let here : index < length all = omega (arith, counted) in
    let e = rw (drop_step all index here) at (r.left all counted fit is) in
    none (get_or all index 0) (values_text (drop (index + 1) all)) (fit index 0 here) (next-values (drop (index + 1) all)) e
