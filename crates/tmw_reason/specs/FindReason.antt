-- What is found of the reason why a window is violated: one that speaks of what is drawn, or that the steps come to no contradiction.
use Rattle.tmw_reason.specs.Shared.{Contains, Criterion, Event, State, Txn, transactions}
use Rattle.std.specs.Prelude.{All, IsFalse, IsTrue, List, None, Option, Some, [], length, ◌<◌, ◌∷◌, ◌≡◌, ◌≤◌, ◌⊎◌}
use Rattle.tmw_reason.specs.declared.reason_case.Reason.{Reason}
use Rattle.tmw_reason.specs.declared.reason_case.Derivation.{Derivation}
use Rattle.tmw_reason.specs.declared.reason_case.ReasonCase.{ReasonCase}
use Rattle.tmw_reason.specs.declared.reason_step.Contradiction.{Contradiction}
use Rattle.tmw_reason.specs.declared.reason_step.ReasonStep.{ReasonStep}
use Rattle.tmw_reason.specs.DrawnSteps.{Drawn, drawn_ends, drawn_steps}
use Rattle.tmw_reason.specs.Reasons.{IsReason}
use Rattle.tmw_reason.specs.ReasonSteps.{Asked, Derives, contradicts, follows, tells}

-- All that the derivation says is drawn.
pub record IsDrawn (drawn : List Drawn) (derivation : Derivation) : Type 0 where
  pub steps : All (Contains (drawn_steps drawn)) derivation.steps.items
  pub end : Contains (drawn_ends drawn) derivation.end

abbrev pub IsDrawnCase : List Drawn → ReasonCase → Type 0
IsDrawnCase drawn case = All (IsDrawn drawn) case.derivations.items

-- A reason, all of which is drawn.
pub record IsFound (criterion : Criterion) (states : List State) (ts : List Txn) (drawn : List Drawn) (reason : Reason) : Type 0 where
  pub is : IsReason criterion states ts reason.cases.items
  pub drawn_cases : All (IsDrawnCase drawn) reason.cases.items

-- The steps that follow from each other come to no contradiction: what follows of all that is drawn is told by them already.
pub record ComesToNone (criterion : Criterion) (states : List State) (ts : List Txn) (drawn : List Drawn) : Type 0 where
  pub steps : List ReasonStep
  pub derives : Derives criterion states ts 0 steps
  pub all_told : (step : ReasonStep) → Contains (drawn_steps drawn) step → IsTrue (follows criterion states ts steps step) → IsTrue (tells steps step)
  pub none : (end : Contradiction) → Contains (drawn_ends drawn) end → IsFalse (contradicts criterion states ts steps end)

-- So it is from one of the states alone.
abbrev pub LacksReason : Criterion → List State → List Txn → List Drawn → Type 0
LacksReason criterion states ts drawn = (s : State) × Contains states s × ComesToNone criterion (s ∷ []) ts drawn

-- What is found of what a reason speaks of.
abbrev pub FindsAmong : Asked → List Drawn → Option Reason → Type 0
FindsAmong w drawn None = LacksReason w.criterion w.states w.transactions drawn
FindsAmong w drawn (Some reason) = IsFound w.criterion w.states w.transactions drawn reason

-- What is found of a window: of more than eight transactions nothing.
abbrev pub FindsReason : Criterion → List State → List Event → List Drawn → Option Reason → Type 0
FindsReason criterion states window drawn found =
    ((8 < length (transactions window)) × (found ≡ None))
    ⊎ ((length (transactions window) ≤ 8)
    × FindsAmong (record { criterion = criterion; states = states; transactions = transactions window }) drawn found)
