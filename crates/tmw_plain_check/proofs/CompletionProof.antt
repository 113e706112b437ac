-- The search through completions is sound and complete: it answers true exactly where the transactions have a strict order.
use Rattle.tmw_plain_check.proofs.Shared.{AreHeld, HasOrder, HasStrictOrder, IsTrue, List, State, Txn, [], and_from, and_parts, ap, append-nil, append_assoc, arith, false, goes_with, has_completion, inl, inr, is_explained-complete, is_explained-sound, may_hold, or_cases, or_left, or_right, refl, status_of, sym, true, ◌&&◌, ◌++◌, ◌∙◌, ◌∷◌, ◌≡◌}
use Rattle.tmw_plain_check.proofs.StrictOrders.{strict-held}

-- what is held behind members has, with them, a legal serial order
abbrev GoesWith : State → List Txn → List Txn → Type 0
GoesWith s members ts = (held : List Txn) × AreHeld ts held × HasOrder s (members ++ held)

goes_with-sound : (s : State) (members ts : List Txn) → IsTrue (goes_with s members ts) → GoesWith s members ts
goes_with-sound s members [] goes = ([], refl, rw append-nil (is_explained-sound s members goes))
goes_with-sound s members (t ∷ ts) goes =
    elim (or_cases (may_hold (status_of t.text) true && goes_with s (members ++ t ∷ []) ts) _ goes) [
      | inl way ↦
          let (may, more) = and_parts (may_hold (status_of t.text) true) _ way in
          let (held, are, ordered) = goes_with-sound s (members ++ t ∷ []) ts more in
          (t ∷ held, inr (may, held, refl, are), rw append_assoc at ordered)
      | inr way ↦
          let (may, more) = and_parts (may_hold (status_of t.text) false) _ way in
          grind (arith, (goes_with-sound s members ts more))
    ]

goes_with-complete : (s : State) (members ts held : List Txn) → AreHeld ts held → HasOrder s (members ++ held) → IsTrue (goes_with s members ts)
goes_with-complete s members [] held are ordered = grind (arith, append-nil, is_explained-complete)
goes_with-complete s members (t ∷ ts) held are ordered =
    elim are [
      | inl out ↦
          or_right (may_hold (status_of t.text) true && goes_with s (members ++ t ∷ []) ts) _
          (and_from _ _ out.0 (goes_with-complete s members ts held out.1 ordered))
      | inr in_it ↦
          let (may, rest, is, more) = in_it in
          let joined : members ++ held ≡ (members ++ t ∷ []) ++ rest =
          ap (λ (xs : List Txn). members ++ xs) is ∙ sym (append_assoc members (t ∷ []) rest) in
          or_left _ (may_hold (status_of t.text) false && goes_with s members ts)
          (and_from _ _ may (goes_with-complete s (members ++ t ∷ []) ts rest more (rw joined at ordered)))
    ]

pub has_completion-sound : (s : State) (ts : List Txn) → IsTrue (has_completion s ts) → HasStrictOrder s ts
has_completion-sound s ts goes =
    let (held, are, ordered) = goes_with-sound s [] ts goes in
    strict-held s ts held are ordered

pub has_completion-complete : (s : State) (ts : List Txn) → HasStrictOrder s ts → IsTrue (has_completion s ts)
has_completion-complete s ts (order, a) = goes_with-complete s [] ts a.members a.are (order, a.explains)
