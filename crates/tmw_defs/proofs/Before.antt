-- Serial orders of transactions of which some have completed before the others began: an order of all of them is one of
-- the first followed by one of the others.
use Rattle.tmw_defs.proofs.Shared.{Bool, Explains, IsTrue, Leads, List, Placed, PlacesEach, Some, State, Txn, [], after, and_from, and_parts, ap, arith, end_state, is_legal, keeps_order, length, list_all, list_all-append, not, precedes, refl, remove, remove-append_left, slice_get, slice_get_within, suc, zero, ℕ, ◌&&◌, ◌++◌, ◌<◌, ◌∙◌, ◌∷◌, ◌≡◌}
use Rattle.tmw_defs.proofs.Removals.{list_all-places}

-- the one has completed before the other began, and not the other way round
abbrev pub comes_before : Txn → Txn → Bool
comes_before t u = precedes t u && not (precedes u t)

-- each of the first has completed before each of the others began
abbrev pub is_before : List Txn → List Txn → Bool
is_before ts us = list_all (λ t. list_all (λ u. comes_before t u) us) ts

slice_get_left : (ts us : List Txn) (i : ℕ) (t : Txn) → slice_get ts i ≡ Some t → slice_get (ts ++ us) i ≡ Some t
slice_get_left [] us i t at = absurd (cc)
slice_get_left (x ∷ ts) us zero t at = at
slice_get_left (x ∷ ts) us (suc i) t at = slice_get_left ts us i t at

-- what holds of each and passes on to another test holds of each by that one
pub list_all-mono : {A : Type 0} (p q : A → Bool) → ((x : A) → IsTrue (p x) → IsTrue (q x)) → (xs : List A)
    → IsTrue (list_all p xs) → IsTrue (list_all q xs)
list_all-mono p q to [] all = refl
list_all-mono p q to (x ∷ xs) all =
    let (here, more) = and_parts (p x) _ all in
    and_from (q x) _ (to x here) (list_all-mono p q to xs more)

pub places-append : (ts us : List Txn) (one two : List Placed) → PlacesEach ts one → PlacesEach us two
    → PlacesEach (ts ++ us) (one ++ two)
places-append ts us [] two none rest = rw none rest
places-append ts us (p ∷ one) two (i, at, more) rest =
    let within : i < length ts = slice_get_within ts i p.txn at in
    (i, slice_get_left ts us i p.txn at, rw (remove-append_left ts us i within) (places-append (remove ts i) us one two more rest))

-- no one of these precedes the transaction
abbrev pub none_precedes : List Placed → Txn → Bool
none_precedes order t = list_all (λ q. not (precedes q.txn t)) order

pub keeps-append : (one two : List Placed) → IsTrue (keeps_order one) → IsTrue (keeps_order two)
    → IsTrue (list_all (λ p. none_precedes two p.txn) one) → IsTrue (keeps_order (one ++ two))
keeps-append [] two a b across = b
keeps-append (p ∷ one) two a b across =
    let (here, more) = and_parts (none_precedes one p.txn) _ a in
    let (first, others) = and_parts (none_precedes two p.txn) _ across in
    grind (arith, list_all-append, (keeps-append one two more b others))

-- none of the others precedes one of the first
across-before : (ts us : List Txn) (one two : List Placed) → PlacesEach ts one → PlacesEach us two → IsTrue (is_before ts us)
    → IsTrue (list_all (λ p. none_precedes two p.txn) one)
across-before ts us one two places others before =
    let each = list_all-mono (λ t. list_all (λ u. comes_before t u) us) (λ t. none_precedes two t)
    (λ t h. rw (list_all-places (λ u. not (precedes u t)) us two others)
    (list_all-mono (λ u. comes_before t u) (λ u. not (precedes u t)) (λ u k. (and_parts (precedes t u) _ k).1) us h))
    ts before in
    rw (list_all-places (λ t. none_precedes two t) ts one places) each

pub is_legal-append : (s : State) (one two : List Placed)
    → is_legal s (one ++ two) ≡ (is_legal s one && is_legal (end_state s one) two)
is_legal-append s [] two = refl
is_legal-append s (p ∷ one) two = grind (arith, (is_legal-append (after s p) one two))

pub end_state-append : (s : State) (one two : List Placed) → end_state s (one ++ two) ≡ end_state (end_state s one) two
end_state-append s [] two = refl
end_state-append s (p ∷ one) two = end_state-append (after s p) one two

pub explains-append : (s : State) (ts us : List Txn) (one two : List Placed) → IsTrue (is_before ts us) → Explains s ts one
    → Explains (end_state s one) us two → Explains s (ts ++ us) (one ++ two)
explains-append s ts us one two before a b =
    grind (arith, places-append, keeps-append, across-before, list_all-append, is_legal-append)

pub leads-append : (s m r : State) (ts us : List Txn) → IsTrue (is_before ts us) → Leads s ts m → Leads m us r
    → Leads s (ts ++ us) r
leads-append s m r ts us before (one, a, is_m) (two, b, is_r) = (
  one ++ two,
  explains-append s ts us one two before a (rw is_m b),
  end_state-append s one two ∙ ap (λ x. end_state x two) is_m ∙ is_r,
)
