-- The other way round: each order of all is an order of those that have completed, followed by one of those that began after.
use Rattle.tmw_defs.proofs.Shared.{Explains, IsTrue, Leads, List, Placed, PlacesEach, Some, State, Txn, [], and_from, and_parts, ap, arith, cases_lt, end_state, inl, inr, is_legal, keeps_order, length, list_all, list_all-append, may_be, not, precedes, refl, remove, remove-append_left, slice_get, suc, sym, zero, ℕ, ◌++◌, ◌+◌, ◌-◌, ◌<◌, ◌∙◌, ◌∷◌, ◌≡◌}
use Rattle.tmw_defs.proofs.Before.{comes_before, is_before, is_legal-append, end_state-append}
use Rattle.tmw_defs.proofs.Removals.{list_all-remove, list_all-places}

slice_get_in_left : (ts us : List Txn) (i : ℕ) → i < length ts → slice_get (ts ++ us) i ≡ slice_get ts i
slice_get_in_left [] us i within = absurd (omega arith)
slice_get_in_left (t ∷ ts) us zero within = refl
slice_get_in_left (t ∷ ts) us (suc i) within = slice_get_in_left ts us i (omega arith)

slice_get_in_right : (ts us : List Txn) (i : ℕ) → slice_get (ts ++ us) (length ts + i) ≡ slice_get us i
slice_get_in_right [] us i = ap (slice_get us) (omega arith)
slice_get_in_right (t ∷ ts) us i = grind (arith, (slice_get_in_right ts us i))

-- the orders of the first and of the others, one after the other
pub record IsApart (ts us : List Txn) (order : List Placed) : Type 0 where
  pub one : List Placed
  pub two : List Placed
  pub joined : order ≡ one ++ two
  pub first : PlacesEach ts one
  pub others : PlacesEach us two

-- none of these has completed before the others began, so none of the others may stand before it
stands_first : (ts us rest : List Txn) (t : Txn) (p : Placed) (more : List Placed) (j : ℕ) → IsTrue (is_before (t ∷ ts) us)
    → slice_get us j ≡ Some p.txn → PlacesEach (t ∷ rest) more → IsTrue (keeps_order (p ∷ more)) → ⊥
stands_first ts us rest t p more j before at places kept =
    let free = (and_parts (list_all (λ q. not (precedes q.txn p.txn)) more) _ kept).0 in
    let all = rw (list_all-places (λ u. not (precedes u p.txn)) (t ∷ rest) more places) at free in
    let over_us = (and_parts (list_all (λ u. comes_before t u) us) _ before).0 in
    let here = (and_parts (comes_before t p.txn) _ (rw (list_all-remove (λ u. comes_before t u) us j p.txn at) at over_us)).0 in
    grind arith

before-remove : (ts us : List Txn) (i : ℕ) (t : Txn) → slice_get ts i ≡ Some t → IsTrue (is_before ts us)
    → IsTrue (is_before (remove ts i) us)
before-remove ts us i t at before =
    (and_parts (list_all (λ u. comes_before t u) us) _ (rw (list_all-remove (λ x. list_all (λ u. comes_before x u) us) ts i t at) at before)).1

pub places_split : (order : List Placed) (ts us : List Txn) → IsTrue (is_before ts us) → PlacesEach (ts ++ us) order
    → IsTrue (keeps_order order) → IsApart ts us order
places_split order [] us before places kept = record { one = []; two = order; joined = refl; first = refl; others = places }
places_split [] (t ∷ ts) us before places kept = absurd (omega (arith, ap length places))
places_split (p ∷ more) (t ∷ ts) us before (i, at, places) kept =
    let kept_more = (and_parts (list_all (λ q. not (precedes q.txn p.txn)) more) _ kept).1 in
    elim (cases_lt i (length (t ∷ ts))) [
      | inl left ↦
          let here : slice_get (t ∷ ts) i ≡ Some p.txn = sym (slice_get_in_left (t ∷ ts) us i left) ∙ at in
          let rest = places_split more (remove (t ∷ ts) i) us (before-remove (t ∷ ts) us i p.txn here before)
          (rw (remove-append_left (t ∷ ts) us i left) at places) kept_more in
          record {
            one = p ∷ rest.one;
            two = rest.two;
            joined = ap (λ xs. p ∷ xs) rest.joined;
            first = (i, here, rest.first);
            others = rest.others;
          }
      | inr right ↦
          let j = i - length (t ∷ ts) in
          let split : i ≡ length (t ∷ ts) + j = omega arith in
          let there : slice_get us j ≡ Some p.txn = sym (slice_get_in_right (t ∷ ts) us j) ∙ ap (slice_get (t ∷ ts ++ us)) (sym split) ∙ at in
          grind (arith, stands_first)
    ]

-- the order is one of the first, and then one of the others from where that ends
pub record IsSplit (s : State) (ts us : List Txn) (order : List Placed) : Type 0 where
  pub one : List Placed
  pub two : List Placed
  pub joined : order ≡ one ++ two
  pub first : Explains s ts one
  pub others : Explains (end_state s one) us two

pub explains_split : (s : State) (ts us : List Txn) (order : List Placed) → IsTrue (is_before ts us) → Explains s (ts ++ us) order
    → IsSplit s ts us order
explains_split s ts us order before a =
    let apart = places_split order ts us before a.each a.kept in
    let legal = and_parts (is_legal s apart.one) _ (rw (apart.joined, is_legal-append s apart.one apart.two) at a.legal) in
    let completed = and_parts (list_all may_be apart.one) _
    (rw (apart.joined, list_all-append may_be apart.one apart.two) at a.completed) in
    let kept = keeps_parts apart.one apart.two (rw apart.joined at a.kept) in grind arith
  where
    keeps_parts : (one two : List Placed) → IsTrue (keeps_order (one ++ two)) → IsTrue (keeps_order one) × IsTrue (keeps_order two)
    keeps_parts [] two kept = (refl, kept)
    keeps_parts (p ∷ one) two kept =
        let (free, more) = and_parts (list_all (λ q. not (precedes q.txn p.txn)) (one ++ two)) _ kept in
        let (here, later) = and_parts (list_all (λ q. not (precedes q.txn p.txn)) one) _
        (rw (list_all-append (λ q. not (precedes q.txn p.txn)) one two) at free) in
        let (one_kept, two_kept) = keeps_parts one two more in
        (and_from _ _ here one_kept, two_kept)

pub leads_split : (s r : State) (ts us : List Txn) → IsTrue (is_before ts us) → Leads s (ts ++ us) r
    → (m : State) × Leads s ts m × Leads m us r
leads_split s r ts us before (order, a, is_r) =
    let split = explains_split s ts us order before a in grind (arith, end_state-append)
