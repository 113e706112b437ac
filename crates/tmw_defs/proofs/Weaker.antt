-- Strict serializability asks less than opacity: of a serial order of all transactions, those that its completion holds are a serial
-- order of them alone.
use Rattle.tmw_defs.proofs.Shared.{AreHeld, Bool, Criterion, Ends, EndsBy, Event, HasOrder, HasStrictOrder, IsFinalOpaque, IsFinalStrict, IsOpaque, IsStrict, IsTrue, LeadsBy, List, Opacity, Placed, PlacesEach, Some, State, Strict, Txn, [], after, and_from, and_parts, ap, arith, cases_Bool, end_state, false, inl, inr, is_legal, keeps_order, list_all, may_be, may_hold, not, operations, precedes, reads_hold, refl, remove, slice_get, status_of, suc, sym, take, transactions, true, zero, ℕ, ◌∙◌, ◌∷◌, ◌≡◌}

-- A completion that leaves out the transaction with this index holds what one of the others holds.
left_out : (ts members : List Txn) (i : ℕ) (t : Txn) → slice_get ts i ≡ Some t → IsTrue (may_hold (status_of t.text) false)
    → AreHeld (remove ts i) members → AreHeld ts members
left_out [] members i t at may are = absurd (cc)
left_out (u ∷ ts) members zero t at may are = let same : u ≡ t = cc in inl (rw same may, are)
left_out (u ∷ ts) members (suc i) t at may are =
    elim are [
      | inl out ↦ inl (out.0, left_out ts members i t at may out.1)
      | inr held ↦
          let (may_u, rest, is, others) = held in
          inr (may_u, rest, is, left_out ts rest i t at may others)
    ]

-- One that holds it holds it at some place among those of the others.
pub record IsTakenIn (ts members : List Txn) (t : Txn) : Type 0 where
  pub all : List Txn
  pub place : ℕ
  pub at : slice_get all place ≡ Some t
  pub others : remove all place ≡ members
  pub are : AreHeld ts all

taken_in : (ts members : List Txn) (i : ℕ) (t : Txn) → slice_get ts i ≡ Some t → IsTrue (may_hold (status_of t.text) true)
    → AreHeld (remove ts i) members → IsTakenIn ts members t
taken_in [] members i t at may are = absurd (cc)
taken_in (u ∷ ts) members zero t at may are =
    let same : u ≡ t = cc in
    record { all = t ∷ members; place = 0; at = refl; others = refl; are = inr (rw same may, members, rw same refl, are) }
taken_in (u ∷ ts) members (suc i) t at may are =
    elim are [
      | inl out ↦ grind (arith, (taken_in ts members i t at may out.1))
      | inr held ↦
          let (may_u, rest, is, others) = held in
          let taken = taken_in ts rest i t at may others in
          record {
            all = u ∷ taken.all;
            place = suc taken.place;
            at = taken.at;
            others = ap (λ (xs : List Txn). u ∷ xs) taken.others ∙ sym is;
            are = inr (may_u, taken.all, refl, taken.are);
          }
    ]

-- What is left of a serial order where only those that are held stay.
record IsKept (s : State) (ts : List Txn) (order : List Placed) : Type 0 where
  pub members : List Txn
  pub stays : List Placed
  pub are : AreHeld ts members
  pub each : PlacesEach members stays
  pub among : (p : Placed → Bool) → IsTrue (list_all p order) → IsTrue (list_all p stays)
  pub kept : IsTrue (keeps_order order) → IsTrue (keeps_order stays)
  pub legal : IsTrue (is_legal s order) → IsTrue (is_legal s stays)
  pub held : IsTrue (list_all (λ p. p.held) stays)
  pub ends : end_state s stays ≡ end_state s order

kept_of : (s : State) (ts : List Txn) (order : List Placed) → PlacesEach ts order → IsTrue (list_all may_be order) → IsKept s ts order
kept_of s ts [] none may = record {
  members = [];
  stays = [];
  are = rw none refl;
  each = refl;
  among = λ p all. refl;
  kept = λ kept. refl;
  legal = λ legal. refl;
  held = refl;
  ends = refl;
}
kept_of s ts (p ∷ order) (i, at, rest) may =
    let (here, more) = and_parts (may_be p) _ may in
    elim (cases_Bool p.held) [
      | inl is ↦
          let others = kept_of (after s p) (remove ts i) order rest more in
          let taken = taken_in ts others.members i p.txn at (rw is at here) others.are in
          record {
            members = taken.all;
            stays = p ∷ others.stays;
            are = taken.are;
            each = (taken.place, taken.at, rw taken.others others.each);
            among = λ q all. let (first, behind) = and_parts (q p) _ all in and_from (q p) _ first (others.among q behind);
            kept = λ kept. let (first, behind) = and_parts (list_all (λ q. not (precedes q.txn p.txn)) order) _ kept in
                and_from (list_all (λ q. not (precedes q.txn p.txn)) others.stays) _
                (others.among (λ q. not (precedes q.txn p.txn)) first) (others.kept behind);
            legal = λ legal. let (first, behind) = and_parts (reads_hold s (operations p.txn.text)) _ legal in
                and_from (reads_hold s (operations p.txn.text)) _ first (others.legal behind);
            held = and_from p.held _ is others.held;
            ends = others.ends;
          }
      | inr is ↦ grind (arith, left_out, (kept_of s (remove ts i) order rest more))
    ]

-- what transactions lead to by opacity they lead to by strict serializability
leads-strictly : (s r : State) (ts : List Txn) → LeadsBy Opacity s ts r → LeadsBy Strict s ts r
leads-strictly s r ts (order, a, is) =
    let kept = kept_of s ts order a.each a.completed in grind arith

-- An end state by opacity is one by each criterion.
pub ends-by : (criterion : Criterion) (S : State → Type 0) (ts : List Txn) (r : State) → Ends S ts r → EndsBy criterion S ts r
ends-by Opacity S ts r ends = ends
ends-by Strict S ts r (s, is, leads) = (s, is, leads-strictly s r ts leads)

pub ordered-strictly : (s : State) (ts : List Txn) → HasOrder s ts → HasStrictOrder s ts
ordered-strictly s ts (order, a) = let (stays, explains, is) = leads-strictly s (end_state s order) ts (order, a, refl) in (stays, explains)

pub final_strict-opaque : (registers : ℕ) (start : State) (h : List Event) → IsFinalOpaque registers start h → IsFinalStrict registers start h
final_strict-opaque registers start h o = record { formed = o.formed; ordered = ordered-strictly start (transactions h) o.ordered }

-- An opaque history is strictly serializable.
pub strict-opaque : (registers : ℕ) (start : State) (h : List Event) → IsOpaque registers start h → IsStrict registers start h
strict-opaque registers start h opaque n within = final_strict-opaque registers start (take n h) (opaque n within)
