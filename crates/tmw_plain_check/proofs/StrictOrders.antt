-- Transactions that have a legal serial order have one of what a completion of them holds: those that it leaves out change nothing.
use Rattle.tmw_plain_check.proofs.Shared.{AreHeld, Explains, HasOrder, HasStrictOrder, IsTrue, List, Placed, Some, State, Txn, [], after, and_from, and_parts, ap, arith, cases_Bool, false, inl, inr, may_hold, not, precedes, refl, remove, slice_get, status_of, subst, suc, sym, true, zero, ℕ, ◌∙◌, ◌∷◌, ◌≡◌}
use Rattle.std.specs.List.{list_all}
use Rattle.tmw_defs.proofs.Completions.{list_all-held}
use Rattle.tmw_defs.proofs.Removals.{list_all-places}

-- what is held of transactions that were held
held-twice : (ts members kept : List Txn) → AreHeld ts members → AreHeld members kept → AreHeld ts kept
held-twice [] members kept are others = rw are at others
held-twice (t ∷ ts) members kept are others =
    elim are [
      | inl out ↦ inl (out.0, held-twice ts members kept out.1 others)
      | inr held ↦
          let (may, rest, is, more) = held in
          let from : AreHeld (t ∷ rest) kept = rw is at others in
          elim from [
            | inl out ↦ inl (out.0, held-twice ts rest kept more out.1)
            | inr again ↦
                let (may_too, left, same, last) = again in
                inr (may_too, left, same, held-twice ts rest left more last)
          ]
    ]

-- a completion of the others leaves out one more
held-without : (ts : List Txn) (i : ℕ) (t : Txn) (members : List Txn) → slice_get ts i ≡ Some t → IsTrue (may_hold (status_of t.text) false)
    → AreHeld (remove ts i) members → AreHeld ts members
held-without [] i t members at may are = absurd (cc)
held-without (u ∷ ts) zero t members at may are = grind arith
held-without (u ∷ ts) (suc i) t members at may are =
    elim are [
      | inl out ↦ inl (out.0, held-without ts i t members at may out.1)
      | inr held ↦
          let (may_too, rest, is, more) = held in
          inr (may_too, rest, is, held-without ts i t rest at may more)
    ]

-- a completion of the others holds one more
record HoldsToo (ts : List Txn) (t : Txn) (members : List Txn) : Type 0 where
  more : List Txn
  are : AreHeld ts more
  place : ℕ
  at : slice_get more place ≡ Some t
  others : remove more place ≡ members

held-with : (ts : List Txn) (i : ℕ) (t : Txn) (members : List Txn) → slice_get ts i ≡ Some t → IsTrue (may_hold (status_of t.text) true)
    → AreHeld (remove ts i) members → HoldsToo ts t members
held-with [] i t members at may are = absurd (cc)
held-with (u ∷ ts) zero t members at may are =
    let same : u ≡ t = cc in
    record { more = u ∷ members; are = inr (rw same may, members, refl, are); place = 0; at = at; others = refl }
held-with (u ∷ ts) (suc i) t members at may are =
    elim are [
      | inl out ↦ grind (arith, (held-with ts i t members at may out.1))
      | inr held ↦
          let (may_too, rest, is, last) = held in
          let too = held-with ts i t rest at may last in
          record {
            more = u ∷ too.more;
            are = inr (may_too, too.more, refl, too.are);
            place = suc too.place;
            at = too.at;
            others = ap (λ (xs : List Txn). u ∷ xs) too.others ∙ sym is;
          }
    ]

-- the order with those that the completion leaves out taken out
order-held : (s : State) (ts : List Txn) (order : List Placed) → Explains s ts order → HasStrictOrder s ts
order-held s ts [] explains = grind arith
order-held s ts (p ∷ order) explains =
    let (i, at, each) = explains.each in
    let (first, kept) = and_parts _ _ explains.kept in
    let (may, completed) = and_parts _ _ explains.completed in
    let (reads, legal) = and_parts _ _ explains.legal in
    let (held, a) = order-held (after s p) (remove ts i) order (record { each = each; kept = kept; completed = completed; legal = legal }) in
    elim (cases_Bool p.held) [
      | inl is ↦
          let too = held-with ts i p.txn a.members at (rw is at may) a.are in
          let none : IsTrue (list_all (λ t. not (precedes t p.txn)) (remove ts i))
          = sym (list_all-places (λ t. not (precedes t p.txn)) (remove ts i) order each) ∙ first
          in
          let before : IsTrue (list_all (λ q. not (precedes q.txn p.txn)) held)
          = list_all-places (λ t. not (precedes t p.txn)) a.members held a.explains.each
          ∙ list_all-held (λ t. not (precedes t p.txn)) (remove ts i) a.members a.are none
          in (
            p ∷ held,
            record {
              members = too.more;
              are = too.are;
              explains = record {
                each = (too.place, too.at, rw too.others a.explains.each);
                kept = and_from _ _ before a.explains.kept;
                completed = and_from _ _ may a.explains.completed;
                legal = and_from _ _ reads a.explains.legal;
              };
              held = and_from _ _ is a.held;
            },
          )
      | inr is ↦
          let same : after s p ≡ s = rw is refl in (
            held,
            record {
              members = a.members;
              are = held-without ts i p.txn a.members at (rw is at may) a.are;
              explains = subst (λ (x : State). Explains x a.members held) same a.explains;
              held = a.held;
            },
          )
    ]

-- so what is opaque is strict
pub strict-opaque : (s : State) (ts : List Txn) → HasOrder s ts → HasStrictOrder s ts
strict-opaque s ts (order, explains) = order-held s ts order explains

-- and to be strict it is enough that what some completion holds has a legal serial order
pub strict-held : (s : State) (ts members : List Txn) → AreHeld ts members → HasOrder s members → HasStrictOrder s ts
strict-held s ts members are ordered =
    let (order, a) = strict-opaque s members ordered in grind (arith, held-twice)
