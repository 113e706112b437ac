-- An order of transactions is one of others that are pairwise like them: where each reads, may be held and leaves the same,
-- and none precedes another that the ones like them allow.
use Rattle.tmw_defs.proofs.Shared.{Bool, Explains, IsTrue, Leads, List, Placed, PlacesEach, Some, State, Txn, [], after, and_from, and_parts, ap, arith, end_state, is_legal, keeps_order, list_all, may_be, may_hold, not, operations, precedes, reads_hold, refl, remove, slice_get, status_of, suc, sym, zero, ℕ, ◌∙◌, ◌∷◌, ◌≡◌}

-- the members of two lists are related one by one
abbrev pub Pairs : {A B : Type 0} → (A → B → Type 0) → List A → List B → Type 0
Pairs Rel [] [] = Unit {0}
Pairs Rel [] (b ∷ bs) = ⊥
Pairs Rel (a ∷ as') [] = ⊥
Pairs Rel (a ∷ as') (b ∷ bs) = Rel a b × Pairs Rel as' bs

-- what the one read, may be and leaves is so of the other
pub record Eases (t u : Txn) : Type 0 where
  pub reads : (s : State) → IsTrue (reads_hold s (operations t.text)) → IsTrue (reads_hold s (operations u.text))
  pub may : (held : Bool) → IsTrue (may_hold (status_of t.text) held) → IsTrue (may_hold (status_of u.text) held)
  pub leaves : (s : State) (held : Bool) → IsTrue (may_hold (status_of t.text) held)
      → after s (record { txn = t; held = held }) ≡ after s (record { txn = u; held = held })

-- related transactions are alike, and the related ones keep each precedence
pub record Keeps (Rel : Txn → Txn → Type 0) : Type 0 where
  pub turn : (t u : Txn) → Rel t u → Eases t u
  pub order : (t u a b : Txn) → Rel t u → Rel a b → IsTrue (precedes u b) → IsTrue (precedes t a)

pairs-get : {A B : Type 0} (Rel : A → B → Type 0) (xs : List A) (ys : List B) (i : ℕ) (x : A) → Pairs Rel xs ys
    → slice_get xs i ≡ Some x → (y : B) × (slice_get ys i ≡ Some y) × Rel x y × Pairs Rel (remove xs i) (remove ys i)
pairs-get Rel [] [] i x p at = absurd (cc)
pairs-get Rel [] (y ∷ ys) i x p at = absurd p
pairs-get Rel (z ∷ xs) [] i x p at = absurd p
pairs-get Rel (z ∷ xs) (y ∷ ys) zero x p at = let same : z ≡ x = cc in (y, refl, rw (← same) p.0, p.1)
pairs-get Rel (z ∷ xs) (y ∷ ys) (suc i) x p at = grind (arith, (pairs-get Rel xs ys i x p.1 at))

-- two placed transactions that are related, both held or both not
abbrev pub Alike : (Txn → Txn → Type 0) → Placed → Placed → Type 0
Alike Rel p q = Rel p.txn q.txn × (p.held ≡ q.held)

-- an order of the others, member by member like this one
record IsAlong (Rel : Txn → Txn → Type 0) (us : List Txn) (order : List Placed) : Type 0 where
  other : List Placed
  each : PlacesEach us other
  alike : Pairs (Alike Rel) order other

places-along : (Rel : Txn → Txn → Type 0) (order : List Placed) (ts us : List Txn) → Pairs Rel ts us → PlacesEach ts order
    → IsAlong Rel us order
places-along Rel [] [] [] p places = record { other = []; each = refl; alike = tt }
places-along Rel [] [] (u ∷ us) p places = absurd p
places-along Rel [] (t ∷ ts) us p places = absurd (cc)
places-along Rel (p ∷ more) ts us pairs (i, at, places) =
    let k = pairs-get Rel ts us i p.txn pairs at in
    let rest = places-along Rel more (remove ts i) (remove us i) k.3 places in
    record {
      other = (record { txn = k.0; held = p.held }) ∷ rest.other;
      each = (i, k.1, rest.each);
      alike = ((k.2, refl), rest.alike);
    }

free-along : (Rel : Txn → Txn → Type 0) → Keeps Rel → (t u : Txn) → Rel t u → (order other : List Placed)
    → Pairs (Alike Rel) order other → IsTrue (list_all (λ q. not (precedes q.txn t)) order)
    → IsTrue (list_all (λ q. not (precedes q.txn u)) other)
free-along Rel keeps t u like [] [] pairs free = refl
free-along Rel keeps t u like [] (q ∷ other) pairs free = absurd pairs
free-along Rel keeps t u like (p ∷ order) [] pairs free = absurd pairs
free-along Rel keeps t u like (p ∷ order) (q ∷ other) pairs free =
    let (here, more) = and_parts (not (precedes p.txn t)) _ free in
    grind (arith, (free-along Rel keeps t u like order other pairs.1 more))

keeps-along : (Rel : Txn → Txn → Type 0) → Keeps Rel → (order other : List Placed) → Pairs (Alike Rel) order other
    → IsTrue (keeps_order order) → IsTrue (keeps_order other)
keeps-along Rel keeps [] [] pairs kept = refl
keeps-along Rel keeps [] (q ∷ other) pairs kept = absurd pairs
keeps-along Rel keeps (p ∷ order) [] pairs kept = absurd pairs
keeps-along Rel keeps (p ∷ order) (q ∷ other) pairs kept =
    let (free, more) = and_parts (list_all (λ r. not (precedes r.txn p.txn)) order) _ kept in
    and_from _ _ (free-along Rel keeps p.txn q.txn pairs.0.0 order other pairs.1 free)
    (keeps-along Rel keeps order other pairs.1 more)

may-along : (Rel : Txn → Txn → Type 0) → Keeps Rel → (order other : List Placed) → Pairs (Alike Rel) order other
    → IsTrue (list_all may_be order) → IsTrue (list_all may_be other)
may-along Rel keeps [] [] pairs may = refl
may-along Rel keeps [] (q ∷ other) pairs may = absurd pairs
may-along Rel keeps (p ∷ order) [] pairs may = absurd pairs
may-along Rel keeps (p ∷ order) (q ∷ other) pairs may =
    let (here, more) = and_parts (may_be p) _ may in
    grind (arith, (may-along Rel keeps order other pairs.1 more))

-- both orders go through the same states
record GoesAlong (s : State) (order other : List Placed) : Type 0 where
  legal : IsTrue (is_legal s other)
  end : end_state s order ≡ end_state s other

legal-along : (Rel : Txn → Txn → Type 0) → Keeps Rel → (s : State) (order other : List Placed) → Pairs (Alike Rel) order other
    → IsTrue (list_all may_be order) → IsTrue (is_legal s order) → GoesAlong s order other
legal-along Rel keeps s [] [] pairs may legal = record { legal = refl; end = refl }
legal-along Rel keeps s [] (q ∷ other) pairs may legal = absurd pairs
legal-along Rel keeps s (p ∷ order) [] pairs may legal = absurd pairs
legal-along Rel keeps s (p ∷ order) (q ∷ other) pairs may legal =
    let like = keeps.turn p.txn q.txn pairs.0.0 in
    let (here, more) = and_parts (may_be p) _ may in
    let (reads, rest) = and_parts (reads_hold s (operations p.txn.text)) _ legal in
    let held : after s (record { txn = q.txn; held = p.held }) ≡ after s q =
    ap (λ h. after s (let r : Placed = record { txn = q.txn; held = h } in r)) pairs.0.1 in
    let same : after s p ≡ after s q = like.leaves s p.held here ∙ held in
    let on = legal-along Rel keeps (after s q) order other pairs.1 more (rw same at rest) in
    grind arith

-- so where an order explains the ones, one that goes along with it explains the others
pub record IsExplained (Rel : Txn → Txn → Type 0) (s : State) (us : List Txn) (order : List Placed) : Type 0 where
  pub other : List Placed
  pub explains : Explains s us other
  pub alike : Pairs (Alike Rel) order other
  pub end : end_state s order ≡ end_state s other

pub explains-along : (Rel : Txn → Txn → Type 0) → Keeps Rel → (ts us : List Txn) → Pairs Rel ts us → (s : State)
    → (order : List Placed) → Explains s ts order → IsExplained Rel s us order
explains-along Rel keeps ts us pairs s order a =
    let along = places-along Rel order ts us pairs a.each in
    let goes = legal-along Rel keeps s order along.other along.alike a.completed a.legal in
    grind (arith, keeps-along, may-along)

-- and where the ones lead, the others do
pub leads-along : (Rel : Txn → Txn → Type 0) → Keeps Rel → (ts us : List Txn) → Pairs Rel ts us → (s r : State)
    → Leads s ts r → Leads s us r
leads-along Rel keeps ts us pairs s r (order, a, is_r) =
    let along = explains-along Rel keeps ts us pairs s order a in (along.other, along.explains, sym along.end ∙ is_r)
