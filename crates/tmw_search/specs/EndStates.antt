-- What is answered of a window: its layers, and its end states from a set of states.
use Rattle.tmw_search.specs.Shared.{Contains, Criterion, EndsBy, Event, IsStrictlySortedBy, StandsFor, State, members, nat_cmp, slice_cmp, transactions}
use Rattle.std.specs.Prelude.{Bool, IsTrue, List, false, length, true, ℕ, ◌<◌, ◌↔◌, ◌≡◌, ◌≤◌}
use Rattle.tmw_search.specs.Layers.{InLayer}
use Rattle.tmw_cuts.specs.declared.states.States.{States}
use Rattle.tmw_cuts.specs.declared.window.Window.{Window}
use Rattle.tmw_search.specs.declared.end_states.EndStates.{EndStates}
use Rattle.tmw_search.specs.declared.end_states.EndStates.TheVariants.{Few, Many}

-- The end states, from the states of the set, of the transactions of the events.
abbrev pub EndsOf : Criterion → States → List Event → State → Type 0
EndsOf criterion states events = EndsBy criterion (Contains (members states)) (transactions events)

-- The pairs are those of a set of k transactions of the window and a state in which some legal order of just that set ends,
-- which keeps the real-time order and leaves out none that precedes a member.
abbrev pub AreLayer : States → Window → ℕ → List (ℕ × State) → Type 0
AreLayer states window k pairs = (events : List Event) → StandsFor window events → (p : ℕ × State)
    → Contains pairs p ↔ InLayer (Contains (members states)) (transactions events) k p.0 p.1

-- It tells whether the window's transactions have an end state.
abbrev pub TellsEnd : Criterion → States → Window → Bool → Type 0
TellsEnd criterion states window answer = (events : List Event) → StandsFor window events
    → IsTrue answer ↔ ((end : State) × EndsOf criterion states events end)

-- The set has more than so many members.
abbrev pub HasMoreThan : ℕ → (State → Type 0) → Type 0
HasMoreThan cap S = (some : List State) × IsStrictlySortedBy (slice_cmp nat_cmp) some × (cap < length some)
    × ((s : State) → Contains some s → S s)

-- These are the members of the set, where it has at most so many, and else it has more.
abbrev pub AreMembers : ℕ → (State → Type 0) → EndStates → Type 0
AreMembers cap S (Few states) = (length (members states) ≤ cap) × ((s : State) → Contains (members states) s ↔ S s)
AreMembers cap S Many = HasMoreThan cap S

-- what is told of ends that are found, few or not
abbrev pub told : Bool → States → EndStates
told true ends = Few ends
told false ends = Many

-- The one set has become the other: that of the end states of the events from its states, where these are at most so many, as is told.
-- Where they are more it has stayed.
abbrev pub Replaces : Criterion → States → ℕ → List Event → States → Bool → Type 0
Replaces criterion old cap events new true =
    (length (members new) ≤ cap) × ((s : State) → Contains (members new) s ↔ EndsOf criterion old events s)
Replaces criterion old cap events new false = HasMoreThan cap (EndsOf criterion old events) × (members new ≡ members old)

abbrev pub AreEnds : Criterion → States → Window → ℕ → EndStates → Type 0
AreEnds criterion states window cap ends =
    (events : List Event) → StandsFor window events → AreMembers cap (EndsOf criterion states events) ends
