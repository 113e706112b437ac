-- What a change of a ring's table can be, whoever makes it, where its rule holds before and after: steps of the ring's machine,
-- by the actors whose parts lie in the seat that changes.
use mathlib.Core.Option.{some}
use lib.ListN.{get_elem?}
use Rattle.tmw_ring.specs.Shared.{Allows, Answered, Core, Front, Gone, Ix, Kind, Me, NoneOf, NotReady, Peek, RingSize, Runs, Saw, State, Step, own}
use Rattle.std.specs.Prelude.{List, [], length, slice_index, slice_set, ℕ, ◌++◌, ◌+◌, ◌<◌, ◌∷◌, ◌≡◌, ◌≢◌}
use Rattle.tmw_ring_defs.specs.RingSteps.{cell_at}
use Rattle.tmw_ring.specs.SeatPart.{Parts, key, run_of}
use Rattle.tmw_ring.specs.Rule.{Shown}
use Rattle.tmw_ring.specs.TableWords.{words_of}
use Rattle.tmw_ring.specs.declared.seat_part.Part.{Part}

-- a state of a ring's table, which has no slot, and what a seat of it has
abbrev pub TableState : Type 0
TableState = State (Unit {0}) Parts

abbrev pub TableSeat : Type 0
TableSeat = Me (Unit {0}) Parts

-- By these steps, so answered, the ring has gone from what the table showed before to what it shows after.
pub record RanOn {size : RingSize} {before after : TableState} (old : Shown size before) (new : Shown size after)
    (since : List Answered) : Type 0 where
  pub longer : new.run ≡ old.run ++ since
  pub ran : Runs old.core since new.core

-- Each part has become one of the same actor, which knows a run that begins with what it knew.
abbrev pub HaveGrown : Parts → Parts → Type 0
HaveGrown old new = (place : ℕ) (was : Part) → get_elem? old place ≡ some was
    → (part : Part) × (since : List Answered) × (get_elem? new place ≡ some part) × (key part ≡ key was) × (run_of part ≡ run_of was ++ since)

-- A seat's parts change, and no other seat's: then the ring has run on, by steps of the actors alone whose parts lie in the seat.
abbrev pub SeatLaw : Type 0
SeatLaw = (size : RingSize) (before after : TableState) (shown : Shown size before) (next : Shown size after) (seat : ℕ) (old new : Parts)
    → get_elem? before.views seat ≡ some old → after.views ≡ slice_set before.views seat new → HaveGrown old new
    → (since : List Answered) × RanOn shown next since
    × ((actor : ℕ) → ((place : ℕ) (part : Part) → get_elem? old place ≡ some part → key part ≢ actor) → NoneOf actor since)

-- A seat's one part changes, and knows a longer run: then the ring has run on by just the actor's own steps of what it knows more.
abbrev pub RunLaw : Type 0
RunLaw = (size : RingSize) (before after : TableState) (shown : Shown size before) (next : Shown size after) (seat : ℕ) (old new : Part)
    (since : List Answered) → get_elem? before.views seat ≡ some (old ∷ []) → after.views ≡ slice_set before.views seat (new ∷ [])
    → key new ≡ key old → run_of new ≡ run_of old ++ since → RanOn shown next (own (key old) since)

-- A seat that has no part changes no word.
abbrev pub EmptySeatLaw : Type 0
EmptySeatLaw = (size : RingSize) (before after : TableState) → Shown size before → Shown size after → (seat : ℕ) (new : Parts)
    → get_elem? before.views seat ≡ some [] → after.views ≡ slice_set before.views seat new → after.words ≡ before.words

-- After a change the seat has one part, of the same actor, which knows a run in which the actor has made just these steps since.
abbrev pub Claims : Part → List Answered → TableSeat → Type 0
Claims old mine seat = (new : Part) × (seat.0 ≡ new ∷ []) × (key new ≡ key old) × Gone (key old) (run_of old) mine (run_of new)

-- what a play tells of a step: the seat before it, the number that it finds, and the seat after it
abbrev pub Telling : Type 1
Telling = Step (Unit {0}) → TableSeat → ℕ → TableSeat → Type 0

-- A change of this word is allowed to a play that tells so, in the seat that has this one part, and in this state the play claims
-- these steps of the part's actor.
pub record MayClaim (tells : Telling) (size : RingSize) (word : ℕ) (change : ℕ → ℕ) (old : Part) (mine : List Answered) (state : TableState) : Type 0 where
  pub slots : ℕ
  pub seat : ℕ
  pub lent : List (ℕ × Unit {0})
  pub made : Step (Unit {0})
  pub allowed : Allows (Shown size) slots seat (old ∷ [], lent) word change (tells made (old ∷ [], lent))
  pub homes : length state.homes ≡ slots
  pub seated : get_elem? state.views seat ≡ some (old ∷ [])
  pub small : slice_index state.words word < 18446744073709551616
  pub claims : (left : TableSeat) → tells made (old ∷ [], lent) (slice_index state.words word) left → Claims old mine left

-- Whoever claims steps can be allowed only where the ring makes them, so answered, and the word changes as they change it.
abbrev pub ClaimLaw : Telling → Type 0
ClaimLaw tells = (size : RingSize) (word : ℕ) (change : ℕ → ℕ) (old : Part) (mine : List Answered) (state : TableState) (shown : Shown size state)
    → MayClaim tells size word change old mine state
    → (next : Core) × Runs shown.core mine next
    × (slice_set state.words word (change (slice_index state.words word)) ≡ words_of next)

-- Whoever claims that the next place is not published can be allowed only where its cell has another stamp.
abbrev pub NotReadyLaw : Telling → Type 0
NotReadyLaw tells = (size : RingSize) (word : ℕ) (change : ℕ → ℕ) (old : Part) (state : TableState) (shown : Shown size state)
    → MayClaim tells size word change old (record { step = Peek; reply = NotReady } ∷ []) state
    → (cell_at shown.core shown.core.front).stamp ≢ shown.core.front + 1

-- Whoever claims to see this front can be allowed only where it is the front.
abbrev pub FrontLaw : Telling → Type 0
FrontLaw tells = (size : RingSize) (word : ℕ) (change : ℕ → ℕ) (old : Part) (writer : Ix) (kind : Kind) (front : ℕ) (state : TableState)
    (shown : Shown size state) → MayClaim tells size word change old (record { step = Front writer kind; reply = Saw front } ∷ []) state
    → front ≡ shown.core.front

-- Whoever claims no step can be allowed no change of a word.
abbrev pub SilentLaw : Telling → Type 0
SilentLaw tells = (size : RingSize) (word : ℕ) (change : ℕ → ℕ) (old : Part) (state : TableState) → Shown size state
    → MayClaim tells size word change old [] state → slice_set state.words word (change (slice_index state.words word)) ≡ state.words
