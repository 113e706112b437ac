-- The law of the window that is shown: as a history of its own, from each of the states from which it begins.
use Rattle.tmw_window.specs.Shared.{Contains, Event, IsVerdict, IsViolated, Malformed, OpaqueSoFar, Rules, State, StrictSoFar, Undecided, Verdict, Violated}
use Rattle.std.specs.Prelude.{◌≡◌, ◌↔◌, ◌<◌, ◌≤◌, ℕ, List, [], ◌∷◌, length}
use Rattle.tmw_defs.specs.History.{transactions}
use Rattle.tmw_window.specs.ShownEvents.{IsShown}

-- What a history is judged by that begins with this state, and else as another.
abbrev pub from_state : Rules → State → Rules
from_state rules state = record rules { start = state }

-- The verdict on a history of so many events, where what is wrong with it is so at its end.
abbrev pub at_end : ℕ → Verdict → Verdict
at_end events OpaqueSoFar = OpaqueSoFar
at_end events StrictSoFar = StrictSoFar
at_end events (Violated at) = Violated events
at_end events (Undecided at why) = Undecided events why
at_end events (Malformed at) = Malformed events

-- There is such a state, and a history is violated at its event exactly when these events, up to it, are violated at their end from each.
-- Then they have no more transactions than the bound, and each verdict on them is that they are violated, at their end or before. From a
-- single state they have the history's own verdict, whichever it is, at their end.
pub record IsJudgedAlike (rules : Rules) (verdict : Verdict) (states : List State) (events : List Event) : Type 0 where
  pub some : (s : State) × Contains states s
  pub violated : ((at : ℕ) × (verdict ≡ Violated at)) ↔ ((s : State) → Contains states s → IsViolated (from_state rules s) events)
  pub narrow : (at : ℕ) → verdict ≡ Violated at → length (transactions events) ≤ rules.window
  pub answered : (at : ℕ) → verdict ≡ Violated at → (s : State) → Contains states s → (answer : Verdict)
      → IsVerdict (from_state rules s) events answer → (k : ℕ) × (answer ≡ Violated k) × (k ≤ length events)
  pub single : (s : State) → states ≡ s ∷ [] → IsVerdict (from_state rules s) events (at_end (length events) verdict)

-- So it is of whatever is shown of a history.
abbrev pub WindowLaw : Type 0
WindowLaw = (rules : Rules) (history : List Event) (verdict : Verdict) (from : ℕ) (states : List State) (events : List Event)
    → 0 < rules.states → IsVerdict rules history verdict → IsShown rules history verdict from states events
    → IsJudgedAlike rules verdict states events
