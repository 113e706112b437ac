-- Places for which cases are said, none of them twice.
use Rattle.tmw_reason.proofs.Shared.{All-push, AreOnce, IsTrue, List, ReasonCase, [], ap, append-nil, append_assoc, are_apart, arith, eq-eqb, eqb-true, false, is_among, is_said_for, list_any-append, refl, said_places, sym, ℕ, ◌++◌, ◌<◌, ◌==◌, ◌||◌, ◌∙◌, ◌∷◌, ◌≡◌}
use Rattle.std.proofs.lemmas.List.Concat.{flat_map-append}

apart-push : (places : List ℕ) (place : ℕ) → IsTrue (are_apart places) → is_among place places ≡ false
    → IsTrue (are_apart (places ++ place ∷ []))
apart-push [] place apart absent = refl
apart-push (p ∷ places) place apart absent =
    grind (arith, (list_any-append (λ q. q == p) places (place ∷ [])), (eqb-true place p), (eq-eqb p place), (apart-push places place))

pub once-push : (count place : ℕ) (places : List ℕ) → AreOnce count places → place < count → is_among place places ≡ false
    → AreOnce count (places ++ place ∷ [])
once-push count place places once low absent = record {
  apart = apart-push places place once.apart absent;
  within = All-push (λ p. p < count) places place once.within low;
}

-- a place is among those of all cases, if one is said for it
said-among : (place : ℕ) (cases : List ReasonCase) → is_among place (said_places cases) ≡ is_said_for place cases
said-among place [] = refl
said-among place (c ∷ cases) =
    list_any-append (λ p. p == place) c.states.items (said_places cases)
    ∙ ap (λ b. is_among place c.states.items || b) (said-among place cases)

-- a case that is said for one place more, for which absent other is
pub once-said : (count place : ℕ) (others : List ReasonCase) (places : List ℕ) → place < count → is_among place places ≡ false
    → is_said_for place others ≡ false → AreOnce count (said_places others ++ places) → AreOnce count (said_places others ++ (places ++ place ∷ []))
once-said count place others places low absent none once =
    let all = said_places others ++ places in
    let nowhere : is_among place all ≡ false =
    list_any-append (λ p. p == place) (said_places others) places ∙ (rw (said-among place others, none, absent) refl) in
    rw (sym (append_assoc (said_places others) places (place ∷ []))) (once-push count place all once low nowhere)

pub said-more : (cases : List ReasonCase) (case : ReasonCase) → said_places (cases ++ case ∷ []) ≡ said_places cases ++ case.states.items
said-more cases case =
    flat_map-append (λ c. c.states.items) cases (case ∷ []) ∙ ap (λ more. said_places cases ++ more) (append-nil case.states.items)
