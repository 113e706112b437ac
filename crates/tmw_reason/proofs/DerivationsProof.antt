-- Steps to which no candidate is news, and which come to no contradiction, end nowhere.
use Rattle.tmw_reason.proofs.Shared.{All, Asked, Bool, Candidates, Closes, Derivation, DerivesIn, EndsNowhere, Err, IfNone, IfOk, IsDerivationIn, IsFalse, IsMade, IsTrue, List, None, Ok, Option, ReasonStep, Result, Some, contradicts_in, inl, inr, list_any, recursion_from_All, sym, ℕ, ◌∙◌, ◌≡◌}
use Rattle.tmw_reason.proofs.ListFacts.{find_any}

none-any : {A : Type 0} (p : A → Bool) (xs : List A) → All (λ x. IsFalse (p x)) xs → IsTrue (list_any p xs) → ⊥
none-any p xs none any =
    let found = find_any (λ x. IsFalse (p x)) p xs (recursion_from_All (λ x. IsFalse (p x)) xs none) any in
    let bad = sym found.has ∙ found.passes in absurd (cc)

pub ends-nowhere : {A E : Type 0} (w : Asked) (candidates : Candidates) (assumed : ℕ) (steps : List ReasonStep) (result : Result (Option A) E)
    → Closes w candidates assumed steps
    → (assumed ≡ 0 → IfOk result (λ found. IfNone found (All (λ end. IsFalse (contradicts_in w steps end)) candidates.ends.items)))
    → IfOk result (λ found. assumed ≡ 0 → IfNone found (EndsNowhere w candidates))
ends-nowhere w candidates assumed steps (Err error) closes none = tt
ends-nowhere w candidates assumed steps (Ok (Some one)) closes none = λ zero_assumed. tt
ends-nowhere w candidates assumed steps (Ok None) closes none = λ zero_assumed.
    elim closes.ends [
      | inl any ↦ absurd (none-any (contradicts_in w steps) candidates.ends.items (none zero_assumed) any)
      | inr closed ↦
          let derives : DerivesIn w 0 steps = rw zero_assumed at closes.derives in
          record { steps = steps; derives = derives; closed = closed; none = none zero_assumed }
    ]

-- what is made of candidates is so from other states, from which it is a derivation too
pub made-again : (v w : Asked) (candidates : Candidates) (derivations : List Derivation) → All (IsMade v candidates) derivations
    → All (IsDerivationIn w) derivations → All (IsMade w candidates) derivations
made-again v w candidates derivations made are = λ k d low. record { is = are k d low; among = (made k d low).among }
