-- What is shown of a history: its last window, up to where something is wrong, and the states from which that window begins.
use Rattle.tmw_window.specs.Shared.{AreLastOutcomes, Event, Malformed, OpaqueSoFar, Rules, State, StrictSoFar, Undecided, Verdict, Violated}
use Rattle.std.specs.Prelude.{◌≡◌, ◌-◌, ℕ, List, length, take}
use Rattle.tmw_defs.specs.Windows.{between}

-- The length at which something is wrong with a history of so many events, or else that of the whole.
abbrev pub shown_length : ℕ → Verdict → ℕ
shown_length events OpaqueSoFar = events
shown_length events StrictSoFar = events
shown_length events (Violated at) = at
shown_length events (Undecided at why) = at
shown_length events (Malformed at) = at

-- What precedes the last event that is shown.
abbrev pub before_shown : List Event → Verdict → List Event
before_shown history verdict = take (shown_length (length history) verdict - 1) history

-- The window begins at the last cut that precedes the last event shown, where the history has these outcomes, and these are its
-- events.
pub record IsShown (rules : Rules) (history : List Event) (verdict : Verdict) (from : ℕ) (states : List State) (events : List Event) : Type 0 where
  pub outcomes : AreLastOutcomes rules (before_shown history verdict) states
  pub begins : from ≡ outcomes.cut
  pub window : events ≡ between from (shown_length (length history) verdict) history
