-- What a search for derivations is given, and what its parts find.
use Rattle.tmw_reason.specs.Shared.{Contains, list_any}
use Rattle.std.specs.Prelude.{All, Bool, IsFalse, IsTrue, List, None, find, not, ℕ, ◌&&◌, ◌≡◌, ◌⊎◌}
use Rattle.tmw_reason.specs.declared.candidates.Candidates.{Candidates}
use Rattle.tmw_reason.specs.declared.reason_case.Derivation.{Derivation}
use Rattle.tmw_reason.specs.declared.reason_step.Contradiction.{Contradiction}
use Rattle.tmw_reason.specs.declared.reason_step.ReasonStep.{ReasonStep}
use Rattle.tmw_reason.specs.DrawnSteps.{Drawn, drawn_ends, drawn_sources, drawn_steps}
use Rattle.tmw_reason.specs.Reasons.{IsDerivationIn, RefuteEachIn}
use Rattle.tmw_reason.specs.ReasonSteps.{Asked, Derives, contradicts, follows, tells}

-- These are all candidates of what is drawn.
pub record AreCandidates (drawn : List Drawn) (candidates : Candidates) : Type 0 where
  pub sources : candidates.sources.items ≡ drawn_sources drawn
  pub steps : candidates.steps.items ≡ drawn_steps drawn
  pub ends : candidates.ends.items ≡ drawn_ends drawn

abbrev pub DerivesIn : Asked → ℕ → List ReasonStep → Type 0
DerivesIn w = Derives w.criterion w.states w.transactions

abbrev pub contradicts_in : Asked → List ReasonStep → Contradiction → Bool
contradicts_in w = contradicts w.criterion w.states w.transactions

-- Of whatever all the one steps are, the others are too.
abbrev pub AreAmong : List ReasonStep → List ReasonStep → Type 0
AreAmong steps others = (all : List ReasonStep) → All (Contains all) steps → All (Contains all) others

-- The step follows from these, and isn't told by them.
abbrev pub is_news : Asked → List ReasonStep → ReasonStep → Bool
is_news w steps step = not (tells steps step) && follows w.criterion w.states w.transactions steps step

-- The steps are candidates, each of which but those that are assumed follows from those before it. They come to a contradiction, or no
-- candidate is news to them.
pub record Closes (w : Asked) (candidates : Candidates) (assumed : ℕ) (steps : List ReasonStep) : Type 0 where
  pub are : All (Contains candidates.steps.items) steps
  pub derives : DerivesIn w assumed steps
  pub ends : IsTrue (list_any (contradicts_in w steps) candidates.ends.items) ⊎ (find (is_news w steps) candidates.steps.items ≡ None)

-- All that the derivation says is among these candidates.
pub record IsAmong (candidates : Candidates) (derivation : Derivation) : Type 0 where
  pub steps : All (Contains candidates.steps.items) derivation.steps.items
  pub end : Contains candidates.ends.items derivation.end

-- A derivation that is made of candidates.
pub record IsMade (w : Asked) (candidates : Candidates) (derivation : Derivation) : Type 0 where
  pub is : IsDerivationIn w derivation
  pub among : IsAmong candidates derivation

-- It assumes so many of its steps.
abbrev pub IsMadeFrom : Asked → Candidates → ℕ → Derivation → Type 0
IsMadeFrom w candidates assumed derivation = IsMade w candidates derivation × (derivation.assumed ≡ assumed)

-- Candidates that follow from each other come to no contradiction.
pub record EndsNowhere (w : Asked) (candidates : Candidates) : Type 0 where
  pub steps : List ReasonStep
  pub derives : DerivesIn w 0 steps
  pub closed : find (is_news w steps) candidates.steps.items ≡ None
  pub none : All (λ end. IsFalse (contradicts_in w steps end)) candidates.ends.items

-- Derivations that are made of candidates, and refute each order.
pub record AreMade (w : Asked) (candidates : Candidates) (derivations : List Derivation) : Type 0 where
  pub are : All (IsMade w candidates) derivations
  pub refute : RefuteEachIn w derivations
