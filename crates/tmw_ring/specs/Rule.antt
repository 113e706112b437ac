-- The rule of a ring's table: its words and the parts of all its seats show one sound ring, and one run that led to it.
use mathlib.Core.Option.{some}
use lib.ListN.{get_elem?}
use Rattle.tmw_ring.specs.Shared.{Answered, Claimed, Cleared, Core, Event, FitsKind, Gone, Idle, IsHeader, Looked, RingSize, Runs, State, WriterPhase, new_core}
use Rattle.std.specs.Prelude.{All, List, Some, [], slice_get, ℕ, ◌<◌, ◌≡◌, ◌≤◌}
use Rattle.tmw_ring_defs.specs.RingSound.{IsIn, Sound}
use Rattle.tmw_ring.specs.SeatPart.{Parts, key, run_of, made_from}
use Rattle.tmw_ring.specs.TableWords.{words_of}
use Rattle.tmw_ring.specs.declared.seat_part.Part.{Part}
use Rattle.tmw_ring.specs.declared.seat_part.Part.TheVariants.{Writes, Reads}
use Rattle.tmw_ring.specs.declared.seat_part.ReaderPart.{ReaderPart}
use Rattle.tmw_ring.specs.declared.seat_part.WriterPart.{WriterPart}

-- What a writer knows is so.
pub record WriterFits (core : Core) (part : WriterPart) : Type 0 where
  pub sized : part.size ≡ core.size
  pub phase : IsIn core part.number.number part.phase
  pub made : part.made ≡ made_from part.number.number 0 core.log
  pub seen : part.seen ≤ core.tail

-- What the reader knows is so.
pub record ReaderFits (core : Core) (part : ReaderPart) : Type 0 where
  pub sized : part.size ≡ core.size
  pub phase : part.phase ≡ core.reader
  pub taken : part.taken ≡ core.taken

abbrev pub PartFits : Core → Part → Type 0
PartFits core (Writes part) = WriterFits core part
PartFits core (Reads part) = ReaderFits core part

-- The part knows the run up to its actor's last step: none of the steps since is the actor's.
abbrev pub Knows : List Answered → Part → Type 0
Knows run part = Gone (key part) (run_of part) [] run

-- The event is one of a writer of this ring, and its value has 64 bits.
pub record IsRecorded (size : RingSize) (event : Event) : Type 0 where
  pub thread : event.thread.number < size.writers
  pub value : FitsKind event.kind

-- The kind of the event that a writer is recording has a value of 64 bits.
abbrev pub FitsPhase : WriterPhase → Type 0
FitsPhase Idle = Unit {0}
FitsPhase (Looked kind front) = FitsKind kind
FitsPhase (Cleared kind) = FitsKind kind
FitsPhase (Claimed place kind is_filled) = FitsKind kind

-- The ring's numbers are those of real words and events: each header has ten bits, and each value 64.
pub record IsReal (core : Core) : Type 0 where
  pub headers : All (λ cell. IsHeader cell.header) core.cells
  pub events : (place : ℕ) (event : Event) → slice_get core.log place ≡ Some event → IsRecorded core.size event
  pub phases : (writer : ℕ) (phase : WriterPhase) → IsIn core writer phase → FitsPhase phase

-- Each part lies in one seat, at one place of its list.
pub record Lies {S : Type 0} (state : State S Parts) (seat place : ℕ) (part : Part) : Type 0 where
  pub view : Parts
  pub seated : get_elem? state.views seat ≡ some view
  pub placed : get_elem? view place ≡ some part

-- The table of a ring of this size shows a sound ring, which all parts fit, and a run that leads to it from a new ring. Each actor
-- has one part, and what each part knows of the run is so.
pub record Shown {S : Type 0} (size : RingSize) (state : State S Parts) : Type 0 where
  pub core : Core
  pub sized : core.size ≡ size
  pub sound : Sound core
  pub real : IsReal core
  pub words : state.words ≡ words_of core
  pub run : List Answered
  pub ran : Runs (new_core size) run core
  -- where the part of each actor lies
  pub where_is : ℕ → ℕ × ℕ
  pub present : (actor : ℕ) → actor ≤ size.writers
      → (part : Part) × Lies state (where_is actor).0 (where_is actor).1 part × (key part ≡ actor)
  pub each : (seat place : ℕ) (part : Part) → Lies state seat place part → PartFits core part × (where_is (key part) ≡ (seat, place))
  pub knows : (seat place : ℕ) (part : Part) → Lies state seat place part → Knows run part
