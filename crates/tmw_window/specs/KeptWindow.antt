-- How the last window of a history is kept beside the monitor that judges it.
use Rattle.tmw_window.specs.Shared.{AreLastOutcomes, Event, Fits, IsOpen, Monitor, Rules, Verdict, members}
use Rattle.std.specs.Prelude.{◌≡◌, ◌<◌, ℕ, List, length, IsTrue, IsFalse}
use Rattle.std.specs.Vec.{vec_capacity}
use Rattle.tmw_cuts.specs.declared.states.States.{States}
use Rattle.tmw_defs.specs.Cuts.{is_cut}
use Rattle.tmw_window.specs.ShownEvents.{IsShown}
use Rattle.tmw_window.specs.declared.kept_window.KeptWindow.{KeptWindow}
use Rattle.tmw_window.specs.declared.window_change.WindowChange.{WindowChange}
use Rattle.tmw_window.specs.declared.window_change.WindowChange.TheVariants.{None, Begins, GoesOn}

-- How many events stand before the window.
abbrev pub from_of : KeptWindow → ℕ
from_of kept = kept.from

-- The states from which it begins.
abbrev pub states_of : KeptWindow → States
states_of kept = kept.states

-- Its events.
abbrev pub events_of : KeptWindow → List Event
events_of kept = kept.events.items

-- How many events it has room for.
abbrev pub room_of : KeptWindow → ℕ
room_of kept = vec_capacity kept.events

-- What is kept is what is shown of a history with this verdict.
abbrev pub KeepsShown : Rules → List Event → Verdict → KeptWindow → Type 0
KeepsShown rules history verdict kept = IsShown rules history verdict (from_of kept) (members (states_of kept)) (events_of kept)

-- Both keep the same window.
pub record KeepsSame (old new : KeptWindow) : Type 0 where
  pub from : from_of new ≡ from_of old
  pub states : members (states_of new) ≡ members (states_of old)
  pub events : events_of new ≡ events_of old

-- What the event that the monitor takes next does with the window. Behind a final verdict: nothing. At a cut: it begins a new one
-- there, from the outcomes. Else: it goes on with the last one.
abbrev pub IsNext : Monitor → WindowChange → Type 0
IsNext monitor None = IsOpen monitor → ⊥
IsNext monitor (Begins from states) = IsOpen monitor × ((rules : Rules) (history : List Event) → Fits rules history monitor
    → IsTrue (is_cut history) × AreLastOutcomes rules history (members states) × (from ≡ length history))
IsNext monitor GoesOn = IsOpen monitor × ((rules : Rules) (history : List Event) → Fits rules history monitor → IsFalse (is_cut history))

-- There is room for the event, where it is kept.
abbrev pub HasPlaceFor : WindowChange → KeptWindow → Type 0
HasPlaceFor None kept = Unit {0}
HasPlaceFor (Begins from states) kept = length (events_of kept) < room_of kept
HasPlaceFor GoesOn kept = length (events_of kept) < room_of kept
