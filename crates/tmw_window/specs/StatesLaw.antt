-- The law of the states from which a window that is shown begins: each is one with which a trace of the run can begin.
use Rattle.tmw_window.specs.Shared.{Contains, Event, IsVerdict, Rules, State, Verdict, list_all}
use Rattle.std.specs.Prelude.{◌≡◌, ◌==◌, ◌<◌, ◌^◌, ℕ, List, length, drop, All, IsTrue}
use Rattle.tmw_events.specs.Text.{FitsKind}
use Rattle.tmw_window.specs.ShownEvents.{IsShown}

-- The state gives each of eight registers a value of 64 bits, and 0 to those that a run of so many registers doesn't have.
pub record FitsRegisters (registers : ℕ) (state : State) : Type 0 where
  pub eight : length state ≡ 8
  pub values : All (λ value. value < 2 ^ 64) state
  pub zeros : IsTrue (list_all (λ value. value == 0) (drop registers state))

-- Where a run begins with such a state, and the values of its events are numbers of 64 bits, each state shown is such a state.
abbrev pub StatesLaw : Type 0
StatesLaw = (rules : Rules) (history : List Event) (verdict : Verdict) (from : ℕ) (states : List State) (events : List Event)
    → IsVerdict rules history verdict → IsShown rules history verdict from states events
    → FitsRegisters rules.registers rules.start → All (λ event. FitsKind event.kind) history
    → (s : State) → Contains states s → FitsRegisters rules.registers s
