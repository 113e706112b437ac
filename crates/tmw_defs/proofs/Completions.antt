-- What a completion holds of two lists together, of a part that began later, and of transactions that are pairwise like others.
use Rattle.tmw_defs.proofs.Shared.{AreHeld, Bool, IsTrue, List, Placed, Txn, [], and_parts, ap, arith, inl, inr, list_all, refl, true, ◌++◌, ◌∙◌, ◌∷◌, ◌≡◌}
use Rattle.tmw_defs.proofs.Along.{Pairs, Keeps, Alike}
use Rattle.tmw_defs.proofs.Before.{is_before, list_all-mono}

-- what holds of each transaction holds of each that a completion holds
pub list_all-held : (p : Txn → Bool) (ts members : List Txn) → AreHeld ts members → IsTrue (list_all p ts) → IsTrue (list_all p members)
list_all-held p [] members are all = rw are refl
list_all-held p (t ∷ ts) members are all =
    let (here, more) = and_parts (p t) _ all in
    elim are [
      | inl out ↦ list_all-held p ts members out.1 more
      | inr held ↦
          let (may, rest, is, others) = held in cc (list_all-held p ts rest others more)
    ]

pub is_before-held : (ts us ms ns : List Txn) → AreHeld ts ms → AreHeld us ns → IsTrue (is_before ts us) → IsTrue (is_before ms ns)
is_before-held ts us ms ns first others before = grind (arith, list_all-mono, list_all-held)

-- a completion of two lists together holds what completions of each hold
pub held-append : (ts us ms ns : List Txn) → AreHeld ts ms → AreHeld us ns → AreHeld (ts ++ us) (ms ++ ns)
held-append [] us ms ns first others = rw first others
held-append (t ∷ ts) us ms ns first others =
    elim first [
      | inl out ↦ inl (out.0, held-append ts us ms ns out.1 others)
      | inr held ↦
          let (may, rest, is, more) = held in grind (arith, (held-append ts us rest ns more others))
    ]

pub record AreParts (ts us members : List Txn) : Type 0 where
  pub one : List Txn
  pub two : List Txn
  pub joined : members ≡ one ++ two
  pub first : AreHeld ts one
  pub others : AreHeld us two

pub held_split : (ts us members : List Txn) → AreHeld (ts ++ us) members → AreParts ts us members
held_split [] us members are = record { one = []; two = members; joined = refl; first = refl; others = are }
held_split (t ∷ ts) us members are =
    elim are [
      | inl out ↦ grind (arith, (held_split ts us members out.1))
      | inr held ↦
          let (may, rest, is, more) = held in
          let parts = held_split ts us rest more in
          record {
            one = t ∷ parts.one;
            two = parts.two;
            joined = is ∙ ap (λ (xs : List Txn). t ∷ xs) parts.joined;
            first = inr (may, parts.one, refl, parts.first);
            others = parts.others;
          }
    ]

-- of transactions that are pairwise like others, those like the ones that are held
pub record AreHeldAlong (Rel : Txn → Txn → Type 0) (us members : List Txn) : Type 0 where
  pub other : List Txn
  pub are : AreHeld us other
  pub pairs : Pairs Rel members other

pub held-along : (Rel : Txn → Txn → Type 0) → Keeps Rel → (ts us members : List Txn) → Pairs Rel ts us → AreHeld ts members
    → AreHeldAlong Rel us members
held-along Rel keeps [] [] members pairs are = record { other = []; are = refl; pairs = rw are tt }
held-along Rel keeps [] (u ∷ us) members pairs are = absurd pairs
held-along Rel keeps (t ∷ ts) [] members pairs are = absurd pairs
held-along Rel keeps (t ∷ ts) (u ∷ us) members pairs are =
    let like = keeps.turn t u pairs.0 in
    elim are [
      | inl out ↦ grind (arith, (held-along Rel keeps ts us members pairs.1 out.1))
      | inr held ↦
          let (may, rest, is, more) = held in
          let along = held-along Rel keeps ts us rest pairs.1 more in
          record {
            other = u ∷ along.other;
            are = inr (like.may true may, along.other, refl, along.are);
            pairs = rw is (pairs.0, along.pairs);
          }
    ]

-- an order that goes along with one of held transactions is one of held transactions
pub all_held-along : (Rel : Txn → Txn → Type 0) (order other : List Placed) → Pairs (Alike Rel) order other
    → IsTrue (list_all (λ p. p.held) order) → IsTrue (list_all (λ p. p.held) other)
all_held-along Rel [] [] pairs held = refl
all_held-along Rel [] (q ∷ other) pairs held = absurd pairs
all_held-along Rel (p ∷ order) [] pairs held = absurd pairs
all_held-along Rel (p ∷ order) (q ∷ other) pairs held =
    let (here, more) = and_parts p.held _ held in cc (all_held-along Rel order other pairs.1 more)
