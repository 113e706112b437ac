-- The search for a serial order is sound and complete: it answers true exactly where the transactions have one.
use Rattle.tmw_defs.proofs.Shared.{Bool, HasOrder, IsTrue, List, None, Option, Placed, Some, State, Txn, [], after, and_from, and_parts, ap, arith, cases_lt, comes, false, has_order, inl, inr, is_explained, is_free, length, list_all, may_be, may_come, not, one_below, one_way, operations, or_cases, or_left, precedes, reads_hold, refl, remove, slice_get, slice_get_within, suc, sym, true, zero, ℕ, ◌&&◌, ◌<◌, ◌∙◌, ◌∷◌, ◌≡◌}
use Rattle.tmw_defs.proofs.Removals.{list_all-places, length-taken}

-- what a search that found a first transaction tells of it
record Comes (next : State → List Txn → Bool) (s : State) (rest : List Txn) (found : Option Txn) : Type 0 where
  placed : Placed
  is : found ≡ Some placed.txn
  free : IsTrue (is_free placed.txn rest)
  reads : IsTrue (reads_hold s (operations placed.txn.text))
  may : IsTrue (may_be placed)
  goes_on : IsTrue (next (after s placed) rest)

comes_parts : (next : State → List Txn → Bool) (s : State) (rest : List Txn) (found : Option Txn)
    → IsTrue (comes next s rest found) → Comes next s rest found
comes_parts next s rest None h = cc
comes_parts next s rest (Some t) h =
    let (front, ways) = and_parts (is_free t rest && reads_hold s (operations t.text)) _ h in
    let (free, reads) = and_parts (is_free t rest) _ front in
    let by_way : (held : Bool) → IsTrue (one_way next s rest (record { txn = t; held = held })) → Comes next s rest (Some t) =
    λ held way. let (may, goes_on) = and_parts (may_be (record { txn = t; held = held })) _ way in
    record { placed = record { txn = t; held = held }; is = refl; free = free; reads = reads; may = may; goes_on = goes_on }
    in
    elim (or_cases (one_way next s rest (record { txn = t; held = true })) _ ways) [ inl way ↦ by_way true way | inr way ↦ by_way false way ]

-- and the other way round
comes_from : (next : State → List Txn → Bool) (s : State) (rest : List Txn) (found : Option Txn)
    → Comes next s rest found → IsTrue (comes next s rest found)
comes_from next s rest found c = grind arith

-- one of the first so many may come
below_found : (next : State → List Txn → Bool) (s : State) (ts : List Txn) (k : ℕ) → IsTrue (one_below next s ts k)
    → (i : ℕ) × IsTrue (may_come next s ts i)
below_found next s ts zero h = cc
below_found next s ts (suc k) h =
    elim (or_cases (one_below next s ts k) (may_come next s ts k) h) [ inl earlier ↦ below_found next s ts k earlier | inr here ↦ (k, here) ]

pub found_below : (next : State → List Txn → Bool) (s : State) (ts : List Txn) (k i : ℕ) → i < k
    → IsTrue (may_come next s ts i) → IsTrue (one_below next s ts k)
found_below next s ts zero i h here = absurd (omega arith)
found_below next s ts (suc k) i h here =
    elim (cases_lt i k) [
      | inl earlier ↦ or_left _ _ (found_below next s ts k i earlier here)
      | inr last ↦
          let same : i ≡ k = omega arith in grind arith
    ]

pub has_order-sound : (n : ℕ) (s : State) (ts : List Txn) → IsTrue (has_order n s ts) → HasOrder s ts
has_order-sound zero s [] h = ([], record { each = refl; kept = refl; completed = refl; legal = refl })
has_order-sound zero s (t ∷ ts) h = cc
has_order-sound (suc n) s ts h =
    let (i, here) = below_found (has_order n) s ts (suc n) h in
    let c = comes_parts (has_order n) s (remove ts i) (slice_get ts i) here in
    let (order, explains) = has_order-sound n (after s c.placed) (remove ts i) c.goes_on in
    let others : list_all (λ q. not (precedes q.txn c.placed.txn)) order ≡ list_all (λ u. not (precedes u c.placed.txn)) (remove ts i)
    = list_all-places (λ u. not (precedes u c.placed.txn)) (remove ts i) order explains.each
    in (
      c.placed ∷ order,
      record {
        each = (i, c.is, explains.each);
        kept = and_from _ _ (others ∙ c.free) explains.kept;
        completed = and_from _ _ c.may explains.completed;
        legal = and_from _ _ c.reads explains.legal;
      },
    )

pub has_order-complete : (n : ℕ) (s : State) (ts : List Txn) → length ts ≡ n → HasOrder s ts → IsTrue (has_order n s ts)
has_order-complete zero s [] size h = refl
has_order-complete zero s (t ∷ ts) size h = absurd (omega arith)
has_order-complete (suc n) s ts size ([], explains) = absurd (omega (arith, ap length explains.each))
has_order-complete (suc n) s ts size (p ∷ order, explains) =
    let (i, at, each) = explains.each in
    let (others, kept) = and_parts _ _ explains.kept in
    let (may, completed) = and_parts _ _ explains.completed in
    let (reads, legal) = and_parts _ _ explains.legal in
    let free : IsTrue (is_free p.txn (remove ts i))
    = sym (list_all-places (λ u. not (precedes u p.txn)) (remove ts i) order each) ∙ others
    in
    let goes_on : IsTrue (has_order n (after s p) (remove ts i))
    = has_order-complete n (after s p) (remove ts i) (length-taken n ts i p.txn size at)
    (order, record { each = each; kept = kept; completed = completed; legal = legal })
    in
    let c : Comes (has_order n) s (remove ts i) (slice_get ts i)
    = record { placed = p; is = at; free = free; reads = reads; may = may; goes_on = goes_on }
    in
    let below : i < suc n = omega (arith, slice_get_within ts i p.txn at) in
    found_below (has_order n) s ts (suc n) i below (comes_from (has_order n) s (remove ts i) (slice_get ts i) c)

-- the transactions are explained exactly where the search says so
pub is_explained-sound : (s : State) (ts : List Txn) → IsTrue (is_explained s ts) → HasOrder s ts
is_explained-sound s ts h = has_order-sound (length ts) s ts h

pub is_explained-complete : (s : State) (ts : List Txn) → HasOrder s ts → IsTrue (is_explained s ts)
is_explained-complete s ts h = has_order-complete (length ts) s ts refl h
