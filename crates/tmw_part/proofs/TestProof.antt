-- The test of a part tells what is kept as a part.
use Rattle.tmw_part.proofs.Shared.{AreOpsLeft, Bool, Each, Event, IsAlike, IsKept, IsTrue, List, Txn, [], agree, and_from, and_parts, ap, are_ops_left, are_placed, arith, cases_Bool, eq-eqb, eqb-true, inl, inr, is_left_of, is_same, is_same_op, is_same_status, is_stay, is_unread, is_whole, keeps_last, keeps_part, list_all, map, may_go, may_miss_all, operations, owner_in, owners, part_of, places_of, precedes, refl, status_of, sym, transactions, true, txn_at, ℕ, ◌==◌, ◌∷◌, ◌≡◌}
use Rattle.tmw_defs.specs.declared.op.Op.TheVariants.{Add, Read, Write}
use Rattle.tmw_defs.specs.declared.op.Op.{Op}
use Rattle.tmw_defs.specs.declared.status.Status.{Status}
use Rattle.tmw_kept.specs.Pieces.{calls}
use Rattle.tmw_events.proofs.Same.{same_ix}

same_op : (x y : Op) → is_same_op x y ≡ true → x ≡ y
same_op (Read q w) (Read r v) same =
    let (one, two) = and_parts (q.number == r.number) _ same in
    rw (same_ix q r (eqb-true q.number r.number one), eqb-true w v two) refl
same_op (Write q w) (Write r v) same =
    let (one, two) = and_parts (q.number == r.number) _ same in
    rw (same_ix q r (eqb-true q.number r.number one), eqb-true w v two) refl
same_op (Add q e w) (Add r d v) same =
    let (one, more) = and_parts (q.number == r.number) _ same in
    let (two, three) = and_parts (e == d) _ more in
    rw (same_ix q r (eqb-true q.number r.number one), eqb-true e d two, eqb-true w v three) refl
same_op x y same = absurd (cc)

op_same : (x : Op) → is_same_op x x ≡ true
op_same (Read q w) = and_from _ _ (eq-eqb q.number q.number refl) (eq-eqb w w refl)
op_same (Write q w) = and_from _ _ (eq-eqb q.number q.number refl) (eq-eqb w w refl)
op_same (Add q d w) = and_from _ _ (eq-eqb q.number q.number refl) (and_from _ _ (eq-eqb d d refl) (eq-eqb w w refl))

ops_left-test : (unread : ℕ → ℕ → Bool) (left ops : List Op) → IsTrue (are_ops_left unread left ops) → AreOpsLeft unread left ops
ops_left-test unread [] [] all = refl
ops_left-test unread (x ∷ left) [] all = absurd (cc)
ops_left-test unread [] (op ∷ ops) all =
    let (here, more) = and_parts (may_go unread op) _ all in
    inl (here, ops_left-test unread [] ops more)
ops_left-test unread (x ∷ left) (op ∷ ops) all =
    elim (cases_Bool (is_same_op x op)) [
      | inl same ↦
          let is : x ≡ op = same_op x op same in
          inr (left, ap (λ (y : Op). y ∷ left) is, ops_left-test unread left ops (rw same at all))
      | inr other ↦
          let (here, more) = and_parts (may_go unread op) _ (rw other at all) in
          inl (here, ops_left-test unread (x ∷ left) ops more)
    ]

-- without the first, which may go, they are left too
first_goes : (unread : ℕ → ℕ → Bool) (x : Op) (left ops : List Op) → IsTrue (may_go unread x) → AreOpsLeft unread (x ∷ left) ops
    → AreOpsLeft unread left ops
first_goes unread x left [] may are = absurd (cc)
first_goes unread x left (op ∷ ops) may (inl goes) = inl (goes.0, first_goes unread x left ops may goes.1)
first_goes unread x left (op ∷ ops) may (inr stays) =
    let (more, is, rest) = stays in
    let one : x ≡ op = cc in
    let others : left ≡ more = cc in
    inl (rw one at may, rw (← others) at rest)

-- so those that are left are taken as soon as they come
test-ops_left : (unread : ℕ → ℕ → Bool) (left ops : List Op) → AreOpsLeft unread left ops → IsTrue (are_ops_left unread left ops)
test-ops_left unread [] [] are = refl
test-ops_left unread (x ∷ left) [] are = absurd (cc)
test-ops_left unread [] (op ∷ ops) (inl goes) = and_from _ _ goes.0 (test-ops_left unread [] ops goes.1)
test-ops_left unread [] (op ∷ ops) (inr stays) = absurd (let is = stays.1 in cc)
test-ops_left unread (x ∷ left) (op ∷ ops) (inl goes) =
    elim (cases_Bool (is_same_op x op)) [
      | inl same ↦
          let may = rw (← same_op x op same) at goes.0 in
          rw same (test-ops_left unread left ops (first_goes unread x left ops may goes.1))
      | inr other ↦ rw other (and_from _ _ goes.0 (test-ops_left unread (x ∷ left) ops goes.1))
    ]
test-ops_left unread (x ∷ left) (op ∷ ops) (inr stays) =
    let (more, is, rest) = stays in
    let one : op ≡ x = cc in
    let others : more ≡ left = cc in
    let same : is_same_op x op ≡ true = rw one (op_same x) in
    rw same (test-ops_left unread left ops (rw others at rest))

same_status : (a b : Status) → is_same_status a b ≡ true → a ≡ b
same_status = grind arith

status_same : (a b : Status) → a ≡ b → is_same_status a b ≡ true
status_same = grind arith

alike-test : (unread : ℕ → ℕ → Bool) (whole left : Txn) → IsTrue (is_left_of unread left.text whole.text) → IsAlike unread whole left
alike-test unread whole left all =
    let (status, more) = and_parts (is_same_status (status_of left.text) (status_of whole.text)) _ all in
    let (alike, ops) = and_parts (agree (operations left.text) (operations whole.text)) _ more in
    record {
      left = record {
        status = same_status (status_of left.text) (status_of whole.text) status;
        ops = ops_left-test unread (operations left.text) (operations whole.text) ops;
      };
      agrees = alike;
    }

test-alike : (unread : ℕ → ℕ → Bool) (whole left : Txn) → IsAlike unread whole left → IsTrue (is_left_of unread left.text whole.text)
test-alike unread whole left a =
    and_from _ _ (status_same (status_of left.text) (status_of whole.text) a.left.status)
    (and_from _ _ a.agrees (test-ops_left unread (operations left.text) (operations whole.text) a.left.ops))

same-test : (a b : Bool) → IsTrue (is_same a b) → a ≡ b
same-test = grind arith

test-same : (a b : Bool) → a ≡ b → IsTrue (is_same a b)
test-same = grind arith

row-test : (at : ℕ → Txn) (place : Txn → ℕ) (t : Txn) (ts : List Txn)
    → IsTrue (list_all (λ u. is_same (precedes (at (place u)) (at (place t))) (precedes u t)) ts)
    → map (λ u. precedes u t) ts ≡ map (λ u. precedes u (at (place t))) (map at (map place ts))
row-test at place t [] all = refl
row-test at place t (u ∷ us) all =
    grind (arith, (same-test (precedes (at (place u)) (at (place t))) (precedes u t)), (row-test at place t us))

test-row : (at : ℕ → Txn) (place : Txn → ℕ) (t : Txn) (ts : List Txn)
    → map (λ u. precedes u t) ts ≡ map (λ u. precedes u (at (place t))) (map at (map place ts))
    → IsTrue (list_all (λ u. is_same (precedes (at (place u)) (at (place t))) (precedes u t)) ts)
test-row at place t [] same = refl
test-row at place t (u ∷ us) same =
    let one : precedes u t ≡ precedes (at (place u)) (at (place t)) = cc in
    let others : map (λ v. precedes v t) us ≡ map (λ v. precedes v (at (place t))) (map at (map place us)) = cc in
    and_from _ _ (test-same _ _ (sym one)) (test-row at place t us others)

-- each of these is what the test tells, and what it is
module _ (place : Txn → ℕ) (whole part : List Txn) where
  stays-test : (ts : List Txn) → IsTrue (list_all (is_stay place whole part) ts)
      → Each (IsAlike (is_unread part)) (map (txn_at whole) (map place ts)) ts
      × (map (λ t. map (λ u. precedes u t) part) ts
      ≡ map (λ t. map (λ u. precedes u t) (map (txn_at whole) (map place part))) (map (txn_at whole) (map place ts)))
  stays-test [] all = (tt, refl)
  stays-test (t ∷ ts) all =
      let (here, more) = and_parts (is_stay place whole part t) _ all in
      let (left, row) = and_parts (is_left_of (is_unread part) t.text (txn_at whole (place t)).text) _ here in
      let (each, rows) = stays-test ts more in
      ((alike-test (is_unread part) (txn_at whole (place t)) t left, each), rw (row-test (txn_at whole) place t part row, rows) refl)

  test-stays : (ts : List Txn) → Each (IsAlike (is_unread part)) (map (txn_at whole) (map place ts)) ts
      → map (λ t. map (λ u. precedes u t) part) ts
      ≡ map (λ t. map (λ u. precedes u t) (map (txn_at whole) (map place part))) (map (txn_at whole) (map place ts))
      → IsTrue (list_all (is_stay place whole part) ts)
  test-stays [] each rows = refl
  test-stays (t ∷ ts) (alike, each) rows =
      let row : map (λ u. precedes u t) part ≡ map (λ u. precedes u (txn_at whole (place t))) (map (txn_at whole) (map place part)) = cc in
      let others : map (λ v. map (λ u. precedes u v) part) ts
      ≡ map (λ v. map (λ u. precedes u v) (map (txn_at whole) (map place part))) (map (txn_at whole) (map place ts)) = cc in
      and_from _ _
      (and_from _ _ (test-alike (is_unread part) (txn_at whole (place t)) t alike) (test-row (txn_at whole) place t part row))
      (test-stays ts each others)

pub kept-test : (marks : List Bool) (window : List Event) → IsTrue (keeps_part marks window) → IsKept marks window
kept-test marks window all =
    let part = part_of marks window in
    let place = owner_in (places_of marks) (transactions window) in
    let (last, more) = and_parts (keeps_last marks) _ all in
    let (whole, rest) = and_parts (list_all (is_whole marks) (calls window)) _ more in
    let (writes, is) = and_parts (may_miss_all part marks window) _ rest in
    let (stay, stays) = and_parts (are_placed (is_unread part) 0 (owners marks window) (transactions window)) _ is in
    let (left, order) = stays-test place (transactions window) part part stays in
    record {
      last = last;
      calls = whole;
      writes = writes;
      stay = stay;
      left = left;
      order = order;
    }

pub test-kept : (marks : List Bool) (window : List Event) → IsKept marks window → IsTrue (keeps_part marks window)
test-kept marks window k =
    let part = part_of marks window in
    let place = owner_in (places_of marks) (transactions window) in
    and_from _ _ k.last (and_from _ _ k.calls (and_from _ _ k.writes
    (and_from _ _ k.stay (test-stays place (transactions window) part part k.left k.order))))
