-- What the registers hold along a serial order: what the last that is held and changes them left, or what the start has.
use Rattle.tmw_reason.proofs.Shared.{Changes, IsTrue, IsUnchanged, List, None, Option, Placed, Some, State, [], after, after-final, and_parts, ap, arith, cases_Bool, eq-eqb, eqb-true, false, final, final-kept, first_unlike, if◌then◌else◌, index-set, inl, inr, is_legal, is_some_of, left_by, length, length-after, length-set, needs, operations, reads_hold, refl, slice_get, slice_index, slice_set, suc, sym, take, unlike_or, writes, zero, ℕ, ◌%◌, ◌&&◌, ◌+◌, ◌<◌, ◌==◌, ◌^◌, ◌∙◌, ◌∷◌, ◌≡◌, ◌⊎◌}
use Rattle.tmw_defs.specs.declared.op.Op.TheVariants.{Add, Read, Write}
use Rattle.tmw_defs.specs.declared.op.Op.{Op}
use Rattle.tmw_defs.specs.Outcomes.{end_state}

-- what operations leave in a register is what it holds after them, if they write it
left-final : (r x : ℕ) (before : Option ℕ) (ops : List Op)
    → left_by r before ops ≡ (if writes r ops then Some (final r x ops) else before)
left-final r x before [] = refl
left-final r x before (Read q v ∷ ops) = left-final r x before ops
left-final r x before (Write q v ∷ ops) =
    grind (arith, (final-kept r v ops), (left-final r (if q.number == r then v else x) (if q.number == r then Some v else before) ops))
left-final r x before (Add q d v ∷ ops) =
    let w = (v + d) % 2 ^ 64 in
    grind (arith, (final-kept r w ops), (left-final r (if q.number == r then w else x) (if q.number == r then Some w else before) ops))

-- operations that leave a value write it
pub left-writes : (r left : ℕ) (ops : List Op) → IsTrue (is_some_of left (left_by r None ops)) → IsTrue (writes r ops)
left-writes r left ops leaves = grind (arith, (left-final r 0 None ops))

-- what operations need is what the register holds before them
pub needs_holds : (s : State) (r v : ℕ) (ops : List Op) → r < length s → IsTrue (reads_hold s ops) → IsTrue (needs r v ops) → slice_index s r ≡ v
needs_holds s r v [] within reads is = absurd (cc)
needs_holds s r v (Read q w ∷ ops) within reads is =
    grind (arith, (needs_holds s r v ops within), (eqb-true q.number r), (eqb-true w v), (eqb-true (slice_index s q.number) w))
needs_holds s r v (Write q w ∷ ops) within reads is =
    grind (arith, (needs_holds (slice_set s q.number w) r v ops (rw length-set within)), (index-set s q.number r w within))
needs_holds s r v (Add q d w ∷ ops) within reads is =
    let x = (w + d) % 2 ^ 64 in
    grind (arith, (needs_holds (slice_set s q.number x) r v ops (rw length-set within)), (index-set s q.number r x within), (eqb-true q.number r), (eqb-true w v), (eqb-true (slice_index s q.number) w))

-- what is known of a register, where it is right
abbrev pub Fits : State → ℕ → Option ℕ → Type 0
Fits s r None = Unit {0}
Fits s r (Some v) = slice_index s r ≡ v

fits-set : (s : State) (q r v : ℕ) (known : Option ℕ) → r < length s → Fits s r known
    → Fits (slice_set s q v) r (if q == r then Some v else known)
fits-set s q r v None within fits = grind (arith, (index-set s q r v within))
fits-set s q r v (Some x) within fits = grind (arith, (index-set s q r v within))

fits-read : (s : State) (q r v : ℕ) (known : Option ℕ) → IsTrue (slice_index s q == v) → Fits s r known
    → Fits s r (if q == r then Some v else known)
fits-read s q r v None here fits = grind (arith, (eqb-true q r), (eqb-true (slice_index s q) v))
fits-read s q r v (Some x) here fits = grind (arith, (eqb-true q r), (eqb-true (slice_index s q) v))

unlike-none : (known : Option ℕ) (rest : Option (ℕ × ℕ)) → unlike_or known None rest ≡ rest
unlike-none None rest = refl
unlike-none (Some x) rest = refl

-- an operation that is answered what the register holds is answered what is known
like_known : (s : State) (r : ℕ) (known : Option ℕ) (q v : ℕ) (rest : Option (ℕ × ℕ)) → Fits s r known → IsTrue (slice_index s q == v)
    → unlike_or known (if q == r then Some v else None) rest ≡ rest
like_known s r None q v rest fits here = refl
like_known s r (Some x) q v rest fits here = grind (arith, (eqb-true q r), (eqb-true (slice_index s q) v), (eq-eqb x v))

-- so operations that are answered what the registers hold read nothing unlike
pub reads_alike : (s : State) (r : ℕ) (known : Option ℕ) (ops : List Op) → r < length s → Fits s r known → IsTrue (reads_hold s ops)
    → first_unlike r known ops ≡ None
reads_alike s r known [] within fits reads = refl
reads_alike s r known (Read q v ∷ ops) within fits reads =
    let (here, rest) = and_parts (slice_index s q.number == v) _ reads in
    like_known s r known q.number v _ fits here ∙ reads_alike s r _ ops within (fits-read s q.number r v known here fits) rest
reads_alike s r known (Write q v ∷ ops) within fits reads =
    unlike-none known _ ∙ reads_alike (slice_set s q.number v) r _ ops (rw length-set within) (fits-set s q.number r v known within fits) reads
reads_alike s r known (Add q d v ∷ ops) within fits reads =
    let w = (v + d) % 2 ^ 64 in
    let (here, rest) = and_parts (slice_index s q.number == v) _ reads in
    like_known s r known q.number v _ fits here
    ∙ reads_alike (slice_set s q.number w) r _ ops (rw length-set within) (fits-set s q.number r w known within fits) rest

-- the state before a place of an order
abbrev pub state_at : State → List Placed → ℕ → State
state_at s order j = end_state s (take j order)

-- what stands at a place reads what the state before it has
pub reads_at : (s : State) (order : List Placed) (j : ℕ) (p : Placed) → IsTrue (is_legal s order) → slice_get order j ≡ Some p
    → IsTrue (reads_hold (state_at s order j) (operations p.txn.text))
reads_at s [] j p legal at = absurd (cc)
reads_at s (x ∷ order) zero p legal at = grind arith
reads_at s (x ∷ order) (suc j) p legal at =
    reads_at (after s x) order j p (and_parts (reads_hold s (operations x.txn.text)) _ legal).1 at

-- what a transaction leaves of a register after it, if it is held and writes that
after-one : (s : State) (p : Placed) (r : ℕ) → r < length s
    → (if p.held && writes r (operations p.txn.text) then left_by r None (operations p.txn.text) else Some (slice_index s r))
    ≡ Some (slice_index (after s p) r)
after-one s p r within =
    grind (arith, cases_Bool, (left-final r (slice_index s r) None (operations p.txn.text)), (after-final s (operations p.txn.text) r within), (final-kept r (slice_index s r) (operations p.txn.text)))

-- the last that is held and writes the register before the place, and what it leaves
pub record LastLeft (s : State) (order : List Placed) (r j : ℕ) : Type 0 where
  pub place : ℕ
  pub changes : Changes order r place
  pub before : place < j
  pub last : IsUnchanged order r (suc place) j
  pub leaves : left_by r None (operations changes.placed.txn.text) ≡ Some (slice_index (state_at s order j) r)

-- or there is none, and the register holds what it did
pub record NoneLeft (s : State) (order : List Placed) (r j : ℕ) : Type 0 where
  pub none : IsUnchanged order r 0 j
  pub same : slice_index (state_at s order j) r ≡ slice_index s r

changes-tail : (x : Placed) (order : List Placed) (r k : ℕ) → Changes (x ∷ order) r (suc k) → Changes order r k
changes-tail x order r k c = record { placed = c.placed; there = c.there; held = c.held; writes = c.writes }

unchanged-after : (x : Placed) (order : List Placed) (r i j : ℕ) → IsUnchanged order r i j → IsUnchanged (x ∷ order) r (suc i) (suc j)
unchanged-after x order r i j un zero low high c = absurd (omega (arith, low))
unchanged-after x order r i j un (suc k) low high c = un k (omega (arith, low)) (omega (arith, high)) (changes-tail x order r k c)

unchanged-all : (x : Placed) (order : List Placed) (r j : ℕ) → (x.held && writes r (operations x.txn.text)) ≡ false
    → IsUnchanged order r 0 j → IsUnchanged (x ∷ order) r 0 (suc j)
unchanged-all x order r j not_so un zero low high c = let at = c.there in let held = c.held in let writes = c.writes in grind arith
unchanged-all x order r j not_so un (suc k) low high c = un k (omega arith) (omega (arith, high)) (changes-tail x order r k c)

pub value_at : (s : State) (order : List Placed) (r j : ℕ) → r < length s → LastLeft s order r j ⊎ NoneLeft s order r j
value_at s order r zero within = inr (record { none = λ k low high c. omega (arith, high); same = refl })
value_at s [] r (suc j) within =
    inr (record { none = λ k low high c. let at = c.there in absurd (cc); same = refl })
value_at s (x ∷ order) r (suc j) within =
    let one = after-one s x r within in
    elim (value_at (after s x) order r j (rw (length-after s x) within)) [
      | inl found ↦ inl (record {
        place = suc found.place;
        changes = record {
          placed = found.changes.placed;
          there = found.changes.there;
          held = found.changes.held;
          writes = found.changes.writes;
        };
        before = omega (arith, found.before);
        last = unchanged-after x order r (suc found.place) j found.last;
        leaves = found.leaves;
      })
      | inr none ↦ elim (cases_Bool (x.held && writes r (operations x.txn.text))) [
        | inl both ↦
            let (held, writes) = and_parts x.held _ both in
            inl (record {
              place = zero;
              changes = record { placed = x; there = refl; held = held; writes = writes };
              before = omega arith;
              last = unchanged-after x order r 0 j none.none;
              leaves = (rw both at one) ∙ ap (λ v. Some v) (sym none.same);
            })
        | inr not_so ↦ inr (record {
          none = unchanged-all x order r j not_so none.none;
          same = none.same ∙ (let e = rw not_so at one in cc);
        })
      ]
    ]
