-- The transactions from which an open read may have its value, one after another.
use Rattle.tmw_search.proofs.Shared.{Bool, Branch, Effect, From, Gives, Has, HasNone, In, IsBranch, IsLegal, IsNode, IsOrder, IsRead, IsTrue, List, MatchOption, MayBe, MayGive, Node, Open, Option, ReadSource, Reads, ReadsFrom, ReadsStart, State, and_le_l, and_le_r, ap, arith, bit_and, bit_at, bit_at-zero, bit_not, bit_or, eq-eqb, false, inl, inr, need_at, not, room, slice_index, source_at, subst, sym, true, w8, ℕ, ◌%◌, ◌*◌, ◌+◌, ◌-◌, ◌<◌, ◌==◌, ◌^◌, ◌∙◌, ◌≡◌, ◌⊎◌}
use Rattle.tmw_search.proofs.Bits.{masks, some-place, same_place, less_of, less_has, or-left, or-right, or_either}
use Rattle.tmw_search.proofs.Consequences.{Grows, room-most, room-pair}

-- of these, all but those left, those that may be its source
pub record Branches (xs : List Effect) (node : Node) (j r these writers left : ℕ) : Type 0 where
  pub only : (i : ℕ) → In writers i → In these i × MayBe xs node j r i
  pub all : (i : ℕ) → In these i → bit_at left i ≡ 0 → MayBe xs node j r i → In writers i
  pub among : (i : ℕ) → In left i → In these i

pub branches-with : {xs : List Effect} {node : Node} {j r these writers left : ℕ} (i : ℕ) → i < 8 → In left i → MayBe xs node j r i
    → Branches xs node j r these writers left → Branches xs node j r these (bit_or writers (1 * 2 ^ i % 2 ^ 8)) (left - 1 * 2 ^ i % 2 ^ 8)
branches-with i within one is b = record { only = grind (arith, masks); all = grind (arith, masks); among = grind (arith, masks) }

pub branches-without : {xs : List Effect} {node : Node} {j r these writers left : ℕ} (i : ℕ) → i < 8 → In left i → (MayBe xs node j r i → ⊥)
    → Branches xs node j r these writers left → Branches xs node j r these writers (left - 1 * 2 ^ i % 2 ^ 8)
branches-without i within one not b = record { only = b.only; all = grind (arith, masks); among = grind (arith, masks) }

-- an open read reads from the start or from one of them
open-reads : (xs : List Effect) (held : ℕ) (start : State) (rank : ℕ → ℕ) (j r : ℕ) (source : ReadSource) → source ≡ Open
    → Reads xs held start rank j r source → ReadsStart xs held start rank j r ⊎ ((i : ℕ) × ReadsFrom xs held rank j r i)
open-reads xs held start rank j r source free is = subst (λ (s : ReadSource). Reads xs held start rank j r s) free is

pub branches-all : (xs : List Effect) (start : State) (may : ℕ) (node : Node) (j r writers left : ℕ) (b : Bool) → j < 8 → r < 8
    → IsRead node.choices j r → source_at node.choices j r ≡ Open → IsNode xs start may node → left ≡ 0
    → (IsTrue b → slice_index start r ≡ need_at xs j r)
    → (slice_index start r ≡ need_at xs j r → ((k : ℕ) → k < 8 → In (slice_index node.choices.writers r) k → Has node.reach k j → k ≡ j) → IsTrue b)
    → Branches xs node j r (bit_or (slice_index node.choices.writers r) may) writers left
    → IsBranch xs start may node (record { reader = j; register = r; start = b; writers = writers })
branches-all xs start may node j r writers left b within_j within_r read free n none to from bs = record {
  reader = within_j;
  register = within_r;
  read = read;
  free = free;
  from_start = to;
  from = λ i within is.
      let (there, may_be) = bs.only i is in
      (elim (or_either (slice_index node.choices.writers r) may i there) [ inl one ↦ inl ((n.writers r i within_r within).0 one).0 | inr might ↦ inr (might, may_be.agrees) ], may_be.leaves, may_be.value);
  all = λ held rank l.
      let (member, needs) = n.reads j r within_j within_r read in
      elim (open-reads xs held start rank j r (source_at node.choices j r) free (l.reads j r within_j within_r (inl member) needs)) [
        | inl reads ↦ inl (
          from reads.value (λ k few is has.
              let (holds, leaves) = (n.writers r k within_r few).0 is in
              let after = reads.others k (few, l.more k few holds, leaves) in
              l.ranking.apart k j few within_j (omega (arith, after, l.ranking.kept k j few within_j has))),
          reads,
        )
        | inr (i, reads) ↦
            let (within, holds, leaves) = reads.writes in
            let may_be : MayBe xs node j r i = record {
              leaves = leaves;
              value = reads.value;
              agrees = l.agree i within (inr holds);
              free = λ has. absurd (omega (arith, reads.below, l.ranking.kept j i within_j within has));
            } in
            inr (
              i,
              within,
              bs.all i (elim (l.only i within holds) [
                | inl own ↦ or-left (slice_index node.choices.writers r) may i ((n.writers r i within_r within).1 (own, leaves))
                | inr might ↦ or-right (slice_index node.choices.writers r) may i might
              ]) (ap (λ (m : ℕ). bit_at m i) none ∙ bit_at-zero i) may_be,
              reads,
            )
      ];
}

pub one-before : (row mask j : ℕ) → j < 8 → mask < 2 ^ 8 → (bit_and (bit_and row mask) (bit_not w8 (1 * 2 ^ j % 2 ^ 8)) ≡ 0 → ⊥)
    → (k : ℕ) × (k < 8) × In mask k × In row k × (k ≡ j → ⊥)
one-before row mask j within fits some =
    let both = bit_and row mask in
    let (k, few, one) = some-place (bit_and both (bit_not w8 (1 * 2 ^ j % 2 ^ 8)))
    (omega (arith, fits, and_le_l both (bit_not w8 (1 * 2 ^ j % 2 ^ 8)), and_le_r row mask)) some in
    (k, few, grind (arith, masks), grind (arith, masks), grind (arith, masks))

pub not-of : (b : Bool) → (IsTrue b → ⊥) → IsTrue (not b)
not-of = grind arith

pub never-true : IsTrue false → ⊥
never-true is = absurd (cc)

pub some-not : (n : ℕ) → IsTrue (not (n == 0)) → n ≡ 0 → ⊥
some-not n is none = let e : (n == 0) ≡ true = eq-eqb n 0 none in absurd (never-true (subst (λ (b : Bool). IsTrue (not b)) e is))

-- every legal order has the read's value come from one of those left
pub record Tries (xs : List Effect) (start : State) (may : ℕ) (node : Node) (j r left : ℕ) : Type 0 where
  pub all : (held : ℕ) (rank : ℕ → ℕ) → IsLegal xs start may node held rank
      → (i : ℕ) × (i < 8) × In left i × ReadsFrom xs held rank j r i
  pub among : (i : ℕ) → i < 8 → In left i → MayGive xs start may node j r (From i)

pub tries-none : {xs : List Effect} {start : State} {may : ℕ} {node : Node} {b : Branch} → IsBranch xs start may node b
    → (IsTrue b.start → (held : ℕ) (rank : ℕ → ℕ) → IsLegal xs start may node held rank
    → ReadsStart xs held start rank b.reader b.register → ⊥)
    → Tries xs start may node b.reader b.register b.writers
tries-none is none = record {
  all = λ held rank l. elim (is.all held rank l) [
    | inl (yes_start, reads) ↦ absurd (none yes_start held rank l reads)
    | inr found ↦ found
  ];
  among = λ i within one.
      let (may_hold, leaves, value) = is.from i within one in
      (within, may_hold, leaves, value);
}

pub tries-next : {xs : List Effect} {start : State} {may : ℕ} {node child : Node} {j r left i : ℕ} → i < 8 → In left i
    → Gives xs start may node j r (From i) child → HasNone xs start may child → Tries xs start may node j r left
    → Tries xs start may node j r (left - 1 * 2 ^ i % 2 ^ 8)
tries-next {xs = xs} {j = j} {r = r} {left = left} {i = i} within one g none t =
    let less = less_of left i within one in
    record {
      all = λ held rank l.
          let (k, few, is, reads) = t.all held rank l in
          elim (same_place k i) [
            | inl same ↦ absurd (none held rank (g.onto held rank l (subst (λ (m : ℕ). ReadsFrom xs held rank j r m) same reads)))
            | inr apart ↦ (k, few, sym (less.other k apart) ∙ is, reads)
          ];
      among = λ k few is. t.among k few (less_has left i _ k less is);
    }

pub tries-all : {xs : List Effect} {start : State} {may : ℕ} {node : Node} {j r left : ℕ} → left ≡ 0 → Tries xs start may node j r left
    → HasNone xs start may node
tries-all none t = λ held rank l.
    let (k, few, is, reads) = t.all held rank l in
    absurd (omega (arith, is, ap (λ (m : ℕ). bit_at m k) none, bit_at-zero k))

-- fewer reads are open, or fewer pairs not ordered
pub fewer-given : {old new child : List ℕ} {before after : ℕ} → IsOrder old → Grows old new → child ≡ new → after < before
    → room child + after < room old + before
fewer-given = grind (arith, room-most)

pub fewer-ordered : {i j : ℕ} {old new child : List ℕ} (opened : ℕ) → IsOrder old → IsOrder new → IsOrder child → i < 8 → j < 8 → Grows old new
    → Grows new child → Has child i j → (Has new i j → ⊥) → room child + opened < room old + opened
fewer-ordered = grind (arith, room-most, room-pair)

-- what one search says of another
pub result-with : {A B : Type 0} {P Q : Node → Type 0} (result : Option Node) → (A → B) → ((n : Node) → P n → Q n) → MatchOption result A P
    → MatchOption result B Q
result-with = grind arith
