-- What holds of the transactions that a serial order places.
use Rattle.tmw_reason.proofs.Shared.{Bool, Committed, Criterion, ExplainsBy, IsTrue, List, Opacity, Placed, PlacesEach, Some, State, Strict, Txn, [], and_parts, ap, arith, begin_apart, eq-eqb, false, inl, inr, is_legal, keeps_order, list_all, may_be, not, precedes, refl, remove, slice_get, status_of, suc, sym, zero, ℕ, ◌<◌, ◌==◌, ◌∙◌, ◌∷◌, ◌≡◌, ◌⊎◌}
use Rattle.tmw_defs.specs.Strict.{AreHeld}
use Rattle.tmw_defs.proofs.Completions.{list_all-held}
use Rattle.tmw_defs.proofs.Removals.{list_all-remove}

-- what holds of each holds of the one at a place
pub all_at : {A : Type 0} (p : A → Bool) (xs : List A) (i : ℕ) (x : A) → IsTrue (list_all p xs) → slice_get xs i ≡ Some x → IsTrue (p x)
all_at p [] i x all at = absurd (cc)
all_at p (y ∷ ys) zero x all at = grind arith
all_at p (y ∷ ys) (suc i) x all at = grind (arith, (all_at p ys i x))

-- the test that a transaction begins elsewhere
abbrev elsewhere : Txn → Txn → Bool
elsewhere t u = not (u.first == t.first)

not_elsewhere : (t u : Txn) → IsTrue (elsewhere t u) → u.first ≡ t.first → ⊥
not_elsewhere t u is same = let e = rw (eq-eqb u.first t.first same) at is in absurd (cc)

-- transactions that begin apart are one where they begin at one place
pub apart : (ts : List Txn) → IsTrue (begin_apart ts) → (a b : ℕ) (t u : Txn) → slice_get ts a ≡ Some t → slice_get ts b ≡ Some u
    → t.first ≡ u.first → a ≡ b
apart [] all a b t u at there same = absurd (cc)
apart (x ∷ ts) all zero zero t u at there same = refl
apart (x ∷ ts) all zero (suc b) t u at there same = grind (arith, (all_at (elsewhere x) ts b u))
apart (x ∷ ts) all (suc a) zero t u at there same = grind (arith, (all_at (elsewhere x) ts a t))
apart (x ∷ ts) all (suc a) (suc b) t u at there same = grind (arith, (apart ts (and_parts (list_all (elsewhere x) ts) _ all).1 a b t u at there same))

-- a member is the one that is taken out, or among the rest
in_rest : {A : Type 0} (xs : List A) (i a : ℕ) (y : A) → slice_get xs a ≡ Some y → (a ≡ i) ⊎ ((b : ℕ) × (slice_get (remove xs i) b ≡ Some y))
in_rest [] i a y at = absurd (cc)
in_rest (x ∷ xs) zero zero y at = inl refl
in_rest (x ∷ xs) zero (suc a) y at = inr (a, at)
in_rest (x ∷ xs) (suc i) zero y at = inr (zero, at)
in_rest (x ∷ xs) (suc i) (suc a) y at =
    elim (in_rest xs i a y at) [
      | inl same ↦ inl (ap (λ n. suc n) same)
      | inr more ↦ inr (suc more.0, more.1)
    ]

-- and what is among the rest is a member
of_rest : {A : Type 0} (xs : List A) (i b : ℕ) (y : A) → slice_get (remove xs i) b ≡ Some y → (a : ℕ) × (slice_get xs a ≡ Some y)
of_rest [] zero b y at = absurd (cc)
of_rest [] (suc i) b y at = absurd (cc)
of_rest (x ∷ xs) zero b y at = (suc b, at)
of_rest (x ∷ xs) (suc i) zero y at = (zero, at)
of_rest (x ∷ xs) (suc i) (suc b) y at = let more = of_rest xs i b y at in (suc more.0, more.1)

-- the rest begin elsewhere than the one that is taken out, and apart
apart-remove : (ts : List Txn) (i : ℕ) (t : Txn) → IsTrue (begin_apart ts) → slice_get ts i ≡ Some t
    → IsTrue (list_all (elsewhere t) (remove ts i)) × IsTrue (begin_apart (remove ts i))
apart-remove [] i t all at = absurd (cc)
apart-remove (x ∷ ts) zero t all at = grind arith
apart-remove (x ∷ ts) (suc i) t all at = grind (arith, (list_all-remove (elsewhere x) ts i t), (apart-remove ts i t))

-- what an order places is one of the transactions
placed_from : (ts : List Txn) (order : List Placed) → PlacesEach ts order → (i : ℕ) (p : Placed) → slice_get order i ≡ Some p
    → (a : ℕ) × (slice_get ts a ≡ Some p.txn)
placed_from ts [] places i p at = absurd (cc)
placed_from ts (q ∷ more) (k, here, rest) zero p at = let is : q ≡ p = cc in (k, rw (← is) here)
placed_from ts (q ∷ more) (k, here, rest) (suc i) p at =
    let found = placed_from (remove ts k) more rest i p at in of_rest ts k found.0 p.txn found.1

-- each transaction stands somewhere
pub record IsPlaced (order : List Placed) (t : Txn) : Type 0 where
  pub place : ℕ
  pub placed : Placed
  pub there : slice_get order place ≡ Some placed
  pub is : placed.txn ≡ t

each_placed : (ts : List Txn) (order : List Placed) → PlacesEach ts order → (a : ℕ) (t : Txn) → slice_get ts a ≡ Some t → IsPlaced order t
each_placed ts [] none a t at = absurd (let e = rw none at at in cc)
each_placed ts (q ∷ more) (k, here, rest) a t at =
    elim (in_rest ts k a t at) [
      | inl same ↦
          let is : q.txn ≡ t = some_same (sym here ∙ ap (slice_get ts) (sym same) ∙ at) in
          record { place = zero; placed = q; there = refl; is = is }
      | inr other ↦
          let found = each_placed (remove ts k) more rest other.0 t other.1 in
          record { place = suc found.place; placed = found.placed; there = found.there; is = found.is }
    ]
  where
    some_same : {x y : Txn} → Some x ≡ Some y → x ≡ y
    some_same e = cc

-- and only there
placed_once : (ts : List Txn) (order : List Placed) → PlacesEach ts order → IsTrue (begin_apart ts) → (i j : ℕ) (p q : Placed)
    → slice_get order i ≡ Some p → slice_get order j ≡ Some q → p.txn.first ≡ q.txn.first → i ≡ j
placed_once ts [] places all i j p q at there same = absurd (cc)
placed_once ts (x ∷ more) places all zero zero p q at there same = refl
placed_once ts (x ∷ more) (k, here, rest) all zero (suc j) p q at there same =
    let is : x ≡ p = cc in
    let found = placed_from (remove ts k) more rest j q there in
    absurd (not_elsewhere x.txn q.txn (all_at (elsewhere x.txn) (remove ts k) found.0 q.txn (apart-remove ts k x.txn all here).0 found.1)
    (sym same ∙ rw is refl))
placed_once ts (x ∷ more) (k, here, rest) all (suc i) zero p q at there same =
    let is : x ≡ q = cc in
    let found = placed_from (remove ts k) more rest i p at in
    absurd (not_elsewhere x.txn p.txn (all_at (elsewhere x.txn) (remove ts k) found.0 p.txn (apart-remove ts k x.txn all here).0 found.1)
    (same ∙ rw is refl))
placed_once ts (x ∷ more) (k, here, rest) all (suc i) (suc j) p q at there same =
    ap (λ n. suc n) (placed_once (remove ts k) more rest (apart-remove ts k x.txn all here).1 i j p q at there same)

-- none stands before one that precedes it
kept_at : (order : List Placed) → IsTrue (keeps_order order) → (i j : ℕ) (p q : Placed) → i < j → slice_get order i ≡ Some p
    → slice_get order j ≡ Some q → precedes q.txn p.txn ≡ false
kept_at [] kept i j p q low at there = absurd (cc)
kept_at (x ∷ more) kept i zero p q low at there = absurd (omega (arith, low))
kept_at (x ∷ more) kept zero (suc j) p q low at there = grind (arith, (all_at (λ r. not (precedes r.txn x.txn)) more j q))
kept_at (x ∷ more) kept (suc i) (suc j) p q low at there = grind (arith, (kept_at more (and_parts (list_all (λ r. not (precedes r.txn x.txn)) more) _ kept).1 i j p q))

-- what a completion holds is one of the transactions, each committed one is, and they begin apart
held_from : (ts members : List Txn) → AreHeld ts members → (b : ℕ) (t : Txn) → slice_get members b ≡ Some t
    → (a : ℕ) × (slice_get ts a ≡ Some t)
held_from [] members are b t at = absurd (let e = rw are at at in cc)
held_from (x ∷ ts) members are b t at =
    elim are [
      | inl out ↦ let found = held_from ts members out.1 b t at in (suc found.0, found.1)
      | inr held ↦
          let (may, more, is, others) = held in first_or more (λ k h. held_from ts more others k t h) b (rw is at at)
    ]
  where
    first_or : (more : List Txn) → ((k : ℕ) → slice_get more k ≡ Some t → (a : ℕ) × (slice_get ts a ≡ Some t)) → (k : ℕ)
        → slice_get (x ∷ more) k ≡ Some t → (a : ℕ) × (slice_get (x ∷ ts) a ≡ Some t)
    first_or more find zero at = (zero, at)
    first_or more find (suc k) at = let found = find k at in (suc found.0, found.1)

committed_held : (ts members : List Txn) → AreHeld ts members → (a : ℕ) (t : Txn) → slice_get ts a ≡ Some t
    → status_of t.text ≡ Committed → (b : ℕ) × (slice_get members b ≡ Some t)
committed_held [] members are a t at committed = absurd (cc)
committed_held (x ∷ ts) members (inl out) zero t at committed = grind arith
committed_held (x ∷ ts) members (inl out) (suc a) t at committed = committed_held ts members out.1 a t at committed
committed_held (x ∷ ts) members (inr (may, more, is, others)) zero t at committed = (zero, rw is at)
committed_held (x ∷ ts) members (inr (may, more, is, others)) (suc a) t at committed =
    let found = committed_held ts more others a t at committed in (suc found.0, rw is found.1)

held_apart : (ts members : List Txn) → AreHeld ts members → IsTrue (begin_apart ts) → IsTrue (begin_apart members)
held_apart [] members are all = rw are refl
held_apart (x ∷ ts) members (inl out) all = held_apart ts members out.1 (and_parts (list_all (elsewhere x) ts) _ all).1
held_apart (x ∷ ts) members (inr (may, more, is, others)) all =
    grind (arith, (list_all-held (elsewhere x) ts more others), (held_apart ts more others))

-- each order has the transaction: by opacity any, by strict serializability a committed one
abbrev pub IsIn : Criterion → Txn → Type 0
IsIn Opacity t = Unit {0}
IsIn Strict t = status_of t.text ≡ Committed

-- what is used of an order that explains transactions which begin apart
pub record IsSerial (criterion : Criterion) (s : State) (ts : List Txn) (order : List Placed) : Type 0 where
  pub from : (i : ℕ) (p : Placed) → slice_get order i ≡ Some p → (a : ℕ) × (slice_get ts a ≡ Some p.txn)
  pub has : (a : ℕ) (t : Txn) → slice_get ts a ≡ Some t → IsIn criterion t → IsPlaced order t
  pub once : (i j : ℕ) (p q : Placed) → slice_get order i ≡ Some p → slice_get order j ≡ Some q → p.txn.first ≡ q.txn.first → i ≡ j
  pub kept : (i j : ℕ) (p q : Placed) → i < j → slice_get order i ≡ Some p → slice_get order j ≡ Some q → precedes q.txn p.txn ≡ false
  pub may : (i : ℕ) (p : Placed) → slice_get order i ≡ Some p → IsTrue (may_be p)
  pub legal : IsTrue (is_legal s order)

pub serial : (criterion : Criterion) (s : State) (ts : List Txn) (order : List Placed) → IsTrue (begin_apart ts)
    → ExplainsBy criterion s ts order → IsSerial criterion s ts order
serial Opacity s ts order all a = record {
  from = placed_from ts order a.each;
  has = λ b t at in_it. each_placed ts order a.each b t at;
  once = placed_once ts order a.each all;
  kept = kept_at order a.kept;
  may = λ i p at. all_at may_be order i p a.completed at;
  legal = a.legal;
}
serial Strict s ts order all a =
    let e = a.explains in
    record {
      from = λ i p at. let found = placed_from a.members order e.each i p at in held_from ts a.members a.are found.0 p.txn found.1;
      has = λ b t at in_it.
          let found = committed_held ts a.members a.are b t at in_it in each_placed a.members order e.each found.0 t found.1;
      once = placed_once a.members order e.each (held_apart ts a.members a.are all);
      kept = kept_at order e.kept;
      may = λ i p at. all_at may_be order i p e.completed at;
      legal = e.legal;
    }
