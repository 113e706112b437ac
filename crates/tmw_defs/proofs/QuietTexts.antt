-- What a quiet event does to the text of the transaction that it joins.
use Rattle.tmw_defs.proofs.Shared.{A, Bool, C, IsTrue, Ix, K, Kind, List, N, Op, Pending, R, Some, T, V, W, Write, X, [], and_parts, answers, ap, append_assoc, arith, ends, false, inl, inr, is_call, is_text, not, operation, operations, refl, rules, status_after, status_of, sym, true, ℕ, ◌&&◌, ◌++◌, ◌∙◌, ◌∷◌, ◌≡◌, ◌⊎◌}
use Rattle.tmw_defs.proofs.TextsProof.{slice_get_last}

-- the event answers no read and no add
abbrev pub tells_no_value : Kind → Bool
tells_no_value (V v) = false
tells_no_value _ = true

-- no operation is added, or a write at the end
abbrev pub AddsAWrite : List Op → List Op → Type 0
AddsAWrite old new = (new ≡ old) ⊎ ((r : Ix) × (v : ℕ) × (new ≡ old ++ Write r v ∷ []))

answer-operation : (registers : ℕ) (call answer : Kind) → IsTrue (is_call registers call && answers call answer)
    → IsTrue (tells_no_value answer) → AddsAWrite [] (operation call answer)
answer-operation registers (R r) A h quiet = inl refl
answer-operation registers (W r v) K h quiet = inr (r, v, refl)
answer-operation registers (W r v) A h quiet = inl refl
answer-operation registers (N r v) A h quiet = inl refl
answer-operation registers T C h quiet = inl refl
answer-operation registers T A h quiet = inl refl
answer-operation registers X A h quiet = inl refl
answer-operation registers call (V v) h quiet = absurd (cc)
answer-operation registers call answer h quiet = grind arith

AddsAWrite-front : (front old new : List Op) → AddsAWrite old new → AddsAWrite (front ++ old) (front ++ new)
AddsAWrite-front front old new adds =
    elim adds [
      | inl same ↦ inl (ap (λ ops. front ++ ops) same)
      | inr more ↦ inr (more.0, more.1, ap (λ ops. front ++ ops) more.2 ∙ sym (append_assoc front old (Write more.0 more.1 ∷ [])))
    ]

pub operations-push : (registers : ℕ) (text : List Kind) (k : Kind) → IsTrue (is_text registers (text ++ k ∷ []))
    → IsTrue (tells_no_value k) → AddsAWrite (operations text) (operations (text ++ k ∷ []))
operations-push registers [] k formed quiet = inl refl
operations-push registers (call ∷ []) k formed quiet = search (rules, answer-operation)
operations-push registers (call ∷ answer ∷ []) k formed quiet = inl refl
operations-push registers (call ∷ answer ∷ next ∷ more) k formed quiet =
    let rest = (and_parts (is_call registers call && answers call answer && not (ends answer)) _ formed).1 in
    AddsAWrite-front (operation call answer) (operations (next ∷ more)) (operations (next ∷ more ++ k ∷ []))
    (operations-push registers (next ∷ more) k rest quiet)

pub status_of-push : (text : List Kind) (k : Kind) → status_of (text ++ k ∷ []) ≡ status_after (Some k)
status_of-push text k = ap status_after (slice_get_last text k)

status_of-cons : (k j : Kind) (ks : List Kind) → status_of (k ∷ j ∷ ks) ≡ status_of (j ∷ ks)
status_of-cons k j ks = grind arith

-- the last event of a commit-pending text is its commit request
is_request : (k : Kind) → status_after (Some k) ≡ Pending → k ≡ T
is_request k pending = grind arith

request-answered : (k : Kind) → answers T k ≡ true → (k ≡ C) ⊎ (k ≡ A)
request-answered k h = grind arith

-- a commit request is answered by a commit or an abort event alone
pub pending-answered : (registers : ℕ) (text : List Kind) (k : Kind) → IsTrue (is_text registers (text ++ k ∷ []))
    → status_of text ≡ Pending → (k ≡ C) ⊎ (k ≡ A)
pending-answered registers [] k formed pending = absurd (cc)
pending-answered registers (call ∷ []) k formed pending =
    let answered = (and_parts (is_call registers call) (answers call k) formed).1 in
    request-answered k (rw (is_request call pending) at answered)
pending-answered registers (call ∷ answer ∷ []) k formed pending = grind arith
pending-answered registers (call ∷ answer ∷ next ∷ more) k formed pending =
    let rest = (and_parts (is_call registers call && answers call answer && not (ends answer)) _ formed).1 in
    pending-answered registers (next ∷ more) k rest
    (sym (status_of-cons answer next more) ∙ sym (status_of-cons call answer (next ∷ more)) ∙ pending)
