-- What one more pair makes of who comes before whom, and what follows from each of several facts, one after another.
use Rattle.tmw_search.proofs.Shared.{Before, Bool, Clear, Has, IfClear, IfStuck, In, IsOrder, IsOut, IsRanking, Joins, List, Narrows, Never, Passes, ReadSource, SettledSource, Stuck, WithinSource, and_le_r, ap, arith, bit_and, bit_at, bit_at-zero, bit_at_above, bit_at_and, bit_or, cases_lt, ext_get_or, false, get_or_past, if◌then◌else◌, inl, inr, length, lives, or_of_8, room, room_of, same_from_bits, slice_index, suc, sym, true, zero, ℕ, ◌%◌, ◌*◌, ◌+◌, ◌-◌, ◌<◌, ◌==◌, ◌^◌, ◌∙◌, ◌≡◌, ◌≤◌, ◌⊎◌}
use Rattle.tmw_search.specs.declared.consequence.Consequence.{Consequence}
use Rattle.tmw_search.proofs.Bits.{masks, same_place}

-- nothing changes, where the second comes before the first
pub none-precedes : (i j : ℕ) (reach : List ℕ) → i < 8 → j < 8 → IsOrder reach → (Has reach i j → ⊥) → Has reach j i
    → Narrows (Before i j) reach reach false
none-precedes = grind arith

-- nothing changes, and there is nothing to add
pub same-narrows : {P : (ℕ → ℕ) → Type 0} {reach : List ℕ} → IsOrder reach → Narrows P reach reach true
same-narrows = grind arith

-- one step after another
pub narrows-then : {P Q R : (ℕ → ℕ) → Type 0} {old mid new : List ℕ} {one two : Bool} → ((rank : ℕ → ℕ) → R rank → P rank)
    → ((rank : ℕ → ℕ) → R rank → Q rank) → Narrows P old mid one → Narrows Q mid new two → Narrows R old new two
narrows-then = grind arith

-- Those joined have all that comes before one of them, and none of them comes after the place.
module _ (j before : ℕ) (old new : List ℕ) (within_j : j < 8) (o : IsOrder old)
    (below : (b a : ℕ) → b < 8 → a < 8 → Has old b a → In before a → In before b)
    (after : (a : ℕ) → a < 8 → Has old j a → In before a → a ≡ j) (joins : Joins j before old new) where
  pub joined-order : IsOrder new
  joined-order = grind arith

  pub joined-narrows : (P : (ℕ → ℕ) → Type 0)
      → ((rank : ℕ → ℕ) → IsRanking rank old → P rank → (a : ℕ) → a < 8 → In before a → rank a ≤ rank j) → Narrows P old new true
  joined-narrows = grind (arith, joined-order)

-- the masks, each joined by these where it has the place
abbrev pub joined : ℕ → ℕ → ℕ → ℕ
joined place before mask = if bit_at mask place == 1 then bit_or mask before else mask

pub joins-each : (place before : ℕ) (reach next : List ℕ)
    → length next ≡ 8 → ((k : ℕ) → slice_index reach k < 256) → before < 256
    → ((k : ℕ) → k < 8 → slice_index next k ≡ joined place before (slice_index reach k)) → Joins place before reach next
joins-each = grind (arith, masks, or_of_8, get_or_past)

-- It has what the other has.
abbrev pub Grows : List ℕ → List ℕ → Type 0
Grows old new = (a b : ℕ) → a < 8 → b < 8 → Has old a b → Has new a b

-- All facts that Q names hold of the ranking.
abbrev pub AllOf : (ℕ → Type 0) → (ℕ → (ℕ → ℕ) → Type 0) → (ℕ → ℕ) → Type 0
AllOf Q P rank = (k : ℕ) → k < 8 → Q k → P k rank

-- what follows from those facts that are not left
pub record Passed (Q : ℕ → Type 0) (P : ℕ → (ℕ → ℕ) → Type 0) (D : ℕ → List ℕ → Type 0) (L : ℕ → Type 0) (old now : List ℕ) (found : Consequence) : Type 0 where
  pub narrows : Narrows (AllOf Q P) old now true
  pub alive : lives found ≡ true
  pub done : IfClear found ((k : ℕ) → k < 8 → Q k → L k ⊎ D k now)
  pub stuck : IfStuck found (AllOf Q P) old
  pub among : (k : ℕ) → L k → Q k

-- Those of the second are left after the one at the place.
pub record Without (L M : ℕ → Type 0) (q : ℕ) : Type 0 where
  pub still : (k : ℕ) → k < 8 → L k → (k ≡ q) ⊎ M k
  pub fewer : (k : ℕ) → M k → L k

pub bit-left : (left q : ℕ) → q < 8 → In left q → Without (In left) (In (left - 1 * 2 ^ q % 2 ^ 8)) q
bit-left left q within one = record { still = grind (arith, masks); fewer = grind (arith, masks) }

pub place-left : (q : ℕ) → Without (λ j. q ≤ j) (λ j. q + 1 ≤ j) q
place-left q = record { still = grind arith; fewer = grind arith }

if-clear : (found : Consequence) {A B : Type 0} → (A → B) → IfClear found A → IfClear found B
if-clear = grind arith

-- it stays decided
pub out-grows : (i j k : ℕ) (old new : List ℕ) → i < 8 → j < 8 → k < 8 → Grows old new → IsOut old k i j → IsOut new k i j
out-grows = grind arith

if-stuck : (found : Consequence) {P R : (ℕ → ℕ) → Type 0} (old mid : List ℕ) → Grows old mid → ((rank : ℕ → ℕ) → R rank → P rank)
    → IfStuck found P mid → IfStuck found R old
if-stuck = grind (arith, out-grows)

pub passed-none : {Q : ℕ → Type 0} {P : ℕ → (ℕ → ℕ) → Type 0} {D : ℕ → List ℕ → Type 0} {old : List ℕ} → IsOrder old
    → Passed Q P D Q old old Clear
passed-none = grind (arith, same-narrows)

-- what is found by the one and then by the other
abbrev pub last_found : Consequence → Consequence → Consequence
last_found found Never = Never
last_found found Clear = found
last_found found (Stuck i j k) = Stuck i j k

pub passed-next : {Q : ℕ → Type 0} {P : ℕ → (ℕ → ℕ) → Type 0} {D : ℕ → List ℕ → Type 0} {L M : ℕ → Type 0} {old mid new : List ℕ} {found : Consequence}
    {q : ℕ} (next : Consequence) → q < 8 → L q → Without L M q → ((k : ℕ) → k < 8 → Grows mid new → D k mid → D k new)
    → Passed Q P D L old mid found → Passes (P q) (D q) mid new next → lives next ≡ true → Passed Q P D M old new (last_found found next)
passed-next = grind (arith, narrows-then, if-clear, if-stuck)

pub passed-never : {Q : ℕ → Type 0} {P : ℕ → (ℕ → ℕ) → Type 0} {D : ℕ → List ℕ → Type 0} {L : ℕ → Type 0} {old mid new : List ℕ} {found : Consequence}
    {q : ℕ} → q < 8 → L q → Passed Q P D L old mid found → Narrows (P q) mid new false → Narrows (AllOf Q P) old new false
passed-never {q = q} within here p n = narrows-then (λ rank is. is) (λ rank is. is q within (p.among q here)) p.narrows n

pub passed-all : {Q : ℕ → Type 0} {P : ℕ → (ℕ → ℕ) → Type 0} {D : ℕ → List ℕ → Type 0} {L : ℕ → Type 0} {old now : List ℕ} {found : Consequence}
    → ((k : ℕ) → k < 8 → L k → ⊥) → Passed Q P D L old now found → Passes (AllOf Q P) (λ reach. (k : ℕ) → k < 8 → Q k → D k reach) old now found
passed-all = grind (arith, if-clear)

pub no-bit : (left : ℕ) → left ≡ 0 → (k : ℕ) → k < 8 → In left k → ⊥
no-bit left none k within is = absurd (omega (arith, is, ap (λ (m : ℕ). bit_at m k) none, bit_at-zero k))

-- by one step, and what a pass after it has found
pub passes-then : {P Q R : (ℕ → ℕ) → Type 0} {D E : List ℕ → Type 0} {old mid new : List ℕ} {found : Consequence} → ((rank : ℕ → ℕ) → R rank → P rank)
    → ((rank : ℕ → ℕ) → R rank → Q rank) → (Grows mid new → D new → E new) → Narrows P old mid true → Passes Q D mid new found
    → Passes R E old new found
passes-then = grind (arith, narrows-then, if-clear, if-stuck)

-- a source that is settled stays so
pub source-grows : (writers j : ℕ) (source : ReadSource) (old new : List ℕ) → j < 8 → WithinSource source → Grows old new
    → SettledSource writers j source old → SettledSource writers j source new
source-grows = grind (arith, out-grows)

abbrev pub Fit : List ℕ → Type 0
Fit reach = (k : ℕ) → slice_index reach k < 256

-- a mask of which the other has each bit is no greater
covers-le : (a b : ℕ) → a < 256 → ((i : ℕ) → i < 8 → In a i → In b i) → a ≤ b
covers-le a b fits covers =
    let same : bit_and a b ≡ a = same_from_bits (bit_and a b) a (λ i. elim (cases_lt i 8) [
      | inl few ↦ grind (arith, masks, covers i few)
      | inr past ↦ omega (arith, bit_at_and a b i, bit_at_above a 8 i fits past)
    ]) in
    omega (arith, same, and_le_r a b)

pub room-most : (a b : List ℕ) (n : ℕ) → n ≤ 8 → Fit a → Grows a b → room_of b n ≤ room_of a n
unfolding room_of
room-most a b zero few fits grows = omega arith
room-most a b (suc n) few fits grows =
    let here = covers-le (slice_index a n) (slice_index b n) (fits n) (λ i within. grows i n within (omega (arith, few))) in
    omega (arith, room-most a b n (omega (arith, few)) fits grows, here)

room-same : (a b : List ℕ) (n : ℕ) → n ≤ 8 → Fit a → Fit b → Grows a b → room_of b n ≡ room_of a n → (j : ℕ) → j < n
    → slice_index b j ≡ slice_index a j
unfolding room_of
room-same a b zero few fits_a fits_b grows same j within = absurd (omega (arith, within))
room-same a b (suc n) few fits_a fits_b grows same j within =
    let rest = room-most a b n (omega (arith, few)) fits_a grows in
    let here = covers-le (slice_index a n) (slice_index b n) (fits_a n) (λ i within_i. grows i n within_i (omega (arith, few))) in
    elim (same_place j n) [
      | inl is ↦ rw is (omega (arith, same, rest, here, fits_a n, fits_b n))
      | inr apart ↦
          room-same a b n (omega (arith, few)) fits_a fits_b grows (omega (arith, same, rest, here, fits_a n, fits_b n)) j (omega (arith, within, apart))
    ]

pub room-less : (a b : List ℕ) → length a ≡ 8 → length b ≡ 8 → Fit a → Fit b → Grows a b → (b ≡ a → ⊥) → room b < room a
room-less a b size_a size_b fits_a fits_b grows differ =
    let most = room-most a b 8 (omega arith) fits_a grows in
    elim (same_place (room b) (room a)) [
      | inl same ↦ absurd (differ (ext_get_or 0 b a (size_b ∙ sym size_a) (λ j within.
          room-same a b 8 (omega arith) fits_a fits_b grows same j (omega (arith, within, size_b)))))
      | inr apart ↦ omega (arith, most, apart)
    ]

-- one pair more
pub room-pair : (a b : List ℕ) (i j : ℕ) → j < 8 → Fit a → Fit b → Grows a b → Has b i j → (Has a i j → ⊥) → room b < room a
room-pair = grind (arith, room-most, same_place, room-same)

-- each order has a ranking: by the masks, and then by place
abbrev pub rank_of : List ℕ → ℕ → ℕ
rank_of reach i = 8 * slice_index reach i + i

pub order-ranks : (reach : List ℕ) → IsOrder reach → IsRanking (rank_of reach) reach
order-ranks reach o = record {
  apart = λ i j within_i within_j same. omega (arith, same, within_i, within_j);
  kept = λ i j within_i within_j has. elim (same_place i j) [
    | inl same ↦ omega (arith, ap (rank_of reach) same)
    | inr apart ↦
        let most = covers-le (slice_index reach i) (slice_index reach j) (o.fits i) (λ k few is. o.closed k i j few within_i within_j is has) in
        elim (same_place (slice_index reach i) (slice_index reach j)) [
          | inl same ↦ absurd (apart (o.apart i j within_i within_j has (ap (λ (m : ℕ). bit_at m j) same ∙ o.self j within_j)))
          | inr differ ↦ omega (arith, most, differ, within_i)
        ]
  ];
}
