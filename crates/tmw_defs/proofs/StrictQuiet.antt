-- Quiet events and strict serializability: a completion may hold the same transactions after a quiet event, in the same order.
use Rattle.tmw_defs.proofs.Shared.{A, AreHeld, C, Event, IsFinalStrict, IsTrue, List, State, Txn, [], add_event, and_parts, arith, awaits_commit, cases_Bool, false, inl, inr, is_pending, is_quiet_strictly, is_text, is_well_formed, list_all, status_of, transactions, ℕ, ◌&&◌, ◌++◌, ◌==◌, ◌∷◌, ◌≡◌}
use Rattle.tmw_defs.proofs.OneMore.{joins, add_event_past, transactions-push}
use Rattle.tmw_defs.proofs.QuietProof.{left_out, or_none, joined_live}
use Rattle.tmw_defs.proofs.QuietTexts.{status_of-push}

-- it holds after the event what it held before
held-quiet : (registers n : ℕ) (e : Event) (ts members : List Txn) → IsTrue (list_all (λ t. is_text registers t.text) (add_event n e ts))
    → (e.kind ≡ C → ⊥) → (e.kind ≡ A → awaits_commit ts e.thread.number ≡ false) → AreHeld ts members
    → AreHeld (add_event n e ts) members
held-quiet registers n e [] members formed commit aborts are = inl (left_out e.kind commit, are)
held-quiet registers n e (t ∷ ts) members formed commit aborts are =
    elim (cases_Bool (joins e t)) [
      | inl here ↦ grind (arith, joined_live, status_of-push)
      | inr past ↦
          let list = add_event_past n e t ts past in
          let texts = (and_parts (is_text registers t.text) _ (rw list at formed)).1 in
          let others : e.kind ≡ A → awaits_commit ts e.thread.number ≡ false =
          λ is. (or_none ((t.thread == e.thread.number) && is_pending (status_of t.text)) _ (aborts is)).1 in
          elim are [
            | inl out ↦ rw list (inl (out.0, held-quiet registers n e ts members texts commit others out.1))
            | inr held ↦
                let (may, rest, is, more) = held in
                rw list (inr (may, rest, is, held-quiet registers n e ts rest texts commit others more))
          ]
    ]

-- so a history that was final-state strict still is
pub final_strict-quiet : (registers : ℕ) (start : State) (h : List Event) (e : Event) → IsFinalStrict registers start h
    → IsTrue (is_well_formed registers (h ++ e ∷ [])) → IsTrue (is_quiet_strictly (transactions h) e.thread.number e.kind)
    → IsFinalStrict registers start (h ++ e ∷ [])
final_strict-quiet registers start h e o formed quiet = grind (arith, transactions-push, held-quiet)
