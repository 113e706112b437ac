-- What a search for the cases of a reason finds.
use Rattle.tmw_reason.specs.Shared.{Contains, is_among}
use Rattle.std.specs.Prelude.{All, IsTrue, List, None, Option, Some, [], length, ℕ, ◌++◌, ◌<◌, ◌∷◌, ◌≡◌}
use Rattle.tmw_reason.specs.declared.candidates.Candidates.{Candidates}
use Rattle.tmw_reason.specs.declared.reason_case.Derivation.{Derivation}
use Rattle.tmw_reason.specs.declared.reason_case.Reason.{Reason}
use Rattle.tmw_reason.specs.declared.reason_case.ReasonCase.{ReasonCase}
use Rattle.tmw_reason.specs.DerivationSearch.{AreMade, EndsNowhere}
use Rattle.tmw_reason.specs.Reasons.{AreOnce, IsDerivationIn, RefuteEachIn, is_said_for, said_places, states_at}
use Rattle.tmw_reason.specs.ReasonSteps.{Asked}

-- The same, asked of the states at these places alone.
abbrev pub asked_at : Asked → List ℕ → Asked
asked_at w places = record w { states = states_at w.states places }

-- They are derivations, which refute each order.
pub record RefuteFrom (w : Asked) (derivations : List Derivation) : Type 0 where
  pub are : All (IsDerivationIn w) derivations
  pub refute : RefuteEachIn w derivations

-- The case is made of candidates, and refutes each order from its states.
abbrev pub IsMadeCase : Asked → Candidates → ReasonCase → Type 0
IsMadeCase w candidates case = AreMade (asked_at w case.states.items) candidates case.derivations.items

-- The case is so, and is said for each state for which it was. For none it is said again where some of the others are.
pub record Grows (w : Asked) (candidates : Candidates) (others : List ReasonCase) (old new : ReasonCase) : Type 0 where
  pub made : IsMadeCase w candidates new
  pub said : (place : ℕ) → Contains old.states.items place → Contains new.states.items place
  pub once : AreOnce (length w.states) (said_places others ++ old.states.items)
      → AreOnce (length w.states) (said_places others ++ new.states.items)

-- Such a case of the states at these places, or candidates from these states end nowhere.
abbrev pub FindsCase : Asked → Candidates → List ℕ → Option ReasonCase → Type 0
FindsCase w candidates places None = EndsNowhere (asked_at w places) candidates
FindsCase w candidates places (Some case) = (case.states.items ≡ places) × IsMadeCase w candidates case

-- These are the first so many places.
pub record AreFirst (count : ℕ) (places : List ℕ) : Type 0 where
  pub each : (place : ℕ) → place < count → IsTrue (is_among place places)
  pub once : AreOnce count places

-- Such cases are said for the states at the first so many places, and for none twice.
pub record AreSaid (w : Asked) (candidates : Candidates) (count : ℕ) (cases : List ReasonCase) : Type 0 where
  pub are : All (IsMadeCase w candidates) cases
  pub some : All (λ case. 0 < length case.states.items) cases
  pub each : (place : ℕ) → place < count → IsTrue (is_said_for place cases)
  pub once : AreOnce (length w.states) (said_places cases)

-- Such cases for each state, or from one of them candidates end nowhere.
abbrev pub FindsCases : Asked → Candidates → Option Reason → Type 0
FindsCases w candidates None = (place : ℕ) × (place < length w.states) × EndsNowhere (asked_at w (place ∷ [])) candidates
FindsCases w candidates (Some reason) = AreSaid w candidates (length w.states) reason.cases.items
