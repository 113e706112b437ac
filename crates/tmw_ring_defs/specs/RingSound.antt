-- When a ring's state is sound, and that each step keeps it so.
use Rattle.std.specs.Prelude.{◌≡◌, ◌≢◌, ◌⊎◌, ◌+◌, ◌≤◌, ◌<◌, ℕ, Bool, true, List, [], ◌∷◌, length, take, Some, slice_get, All}
use Rattle.tmw_events.specs.EventWords.{packed_header, kind_value}
use Rattle.tmw_events.specs.declared.event.Event.{Event}
use Rattle.tmw_events.specs.declared.event.Kind.{Kind}
use Rattle.tmw_ring_defs.specs.RingCore.{Core}
use Rattle.tmw_ring_defs.specs.RingCells.{Shows}
use Rattle.tmw_ring_defs.specs.RingSteps.{cell_at, core_step}
use Rattle.tmw_ring_defs.specs.declared.ring_phase.ReaderPhase.{ReaderPhase}
use Rattle.tmw_ring_defs.specs.declared.ring_phase.ReaderPhase.TheVariants.{Waiting, Ready, Told}
use Rattle.tmw_ring_defs.specs.declared.ring_phase.WriterPhase.{WriterPhase}
use Rattle.tmw_ring_defs.specs.declared.ring_phase.WriterPhase.TheVariants.{Idle, Looked, Cleared, Claimed}
use Rattle.tmw_ring_defs.specs.declared.ring_step.Reply.{Reply}
use Rattle.tmw_ring_defs.specs.declared.ring_step.Step.{Step}

-- how many writers are cleared
abbrev pub one_if_cleared : WriterPhase → ℕ
one_if_cleared Idle = 0
one_if_cleared (Looked _ _) = 0
one_if_cleared (Cleared _) = 1
one_if_cleared (Claimed _ _ _) = 0

abbrev pub cleared : List WriterPhase → ℕ
cleared [] = 0
cleared (phase ∷ phases) = one_if_cleared phase + cleared phases

-- This writer is so far.
abbrev pub IsIn : Core → ℕ → WriterPhase → Type 0
IsIn core writer phase = slice_get core.writers writer ≡ Some phase

-- A writer has claimed the place and not published it.
pub record IsHeld (core : Core) (place : ℕ) : Type 0 where
  pub writer : ℕ
  pub kind : Kind
  pub is_filled : Bool
  pub claimed : IsIn core writer (Claimed place kind is_filled)

-- The place is published: its cell shows the log's event there.
pub record IsPublished (core : Core) (place : ℕ) : Type 0 where
  pub event : Event
  pub logged : slice_get core.log place ≡ Some event
  pub shown : Shows (cell_at core place) place event

-- The place that a writer holds was claimed and not taken, its event in the log is the writer's, the place isn't stamped yet,
-- and once it is filled its cell has the event's value.
pub record Holds (core : Core) (writer place : ℕ) (kind : Kind) (is_filled : Bool) : Type 0 where
  pub event : Event
  pub logged : slice_get core.log place ≡ Some event
  pub own : event.thread.number ≡ writer
  pub same : event.kind ≡ kind
  pub standing : core.front ≤ place
  pub unstamped : (cell_at core place).stamp ≢ place + 1
  pub value : is_filled ≡ true → (cell_at core place).value ≡ kind_value kind

-- What the reader has read is the next event's, which is published.
abbrev pub HasRead : Core → ReaderPhase → Type 0
HasRead core Waiting = Unit {0}
HasRead core (Ready header) = (next : IsPublished core core.front) × (header ≡ packed_header next.event)
HasRead core (Told header value) =
    (next : IsPublished core core.front) × (header ≡ packed_header next.event) × (value ≡ kind_value next.event.kind)

pub record Sound (core : Core) : Type 0 where
  -- The ring has its cells and its writers.
  pub cells : length core.cells ≡ core.size.cells
  pub writers : length core.writers ≡ core.size.writers
  -- Tail counts the log, front the events taken, and these are the log's first.
  pub tail : core.tail ≡ length core.log
  pub front : core.front ≡ length core.taken
  pub begins : core.taken ≡ take core.front core.log
  pub order : core.front ≤ core.tail
  -- There is room for every cleared writer.
  pub room : core.tail + cleared core.writers ≤ core.front + core.size.cells
  pub limited : core.tail + cleared core.writers ≤ core.size.limit
  pub looks : (writer front : ℕ) (kind : Kind) → IsIn core writer (Looked kind front) → front ≤ core.front
  -- Each place that was claimed and not taken is held or published, and none is held twice.
  pub places : (place : ℕ) → core.front ≤ place → place < core.tail → IsHeld core place ⊎ IsPublished core place
  pub holds : (writer place : ℕ) (kind : Kind) (is_filled : Bool) → IsIn core writer (Claimed place kind is_filled)
      → Holds core writer place kind is_filled
  pub once : (a b place : ℕ) (kind other : Kind) (p q : Bool) → IsIn core a (Claimed place kind p) → IsIn core b (Claimed place other q) → a ≡ b
  -- No stamp is ahead of tail.
  pub stamps : All (λ cell. cell.stamp ≤ core.tail) core.cells
  pub reads : HasRead core core.reader

-- From one state to the other the cells of the places that were published and not taken are left alone.
abbrev pub Spares : Core → Core → Type 0
Spares old new = (place : ℕ) → old.front ≤ place → IsPublished old place → cell_at new place ≡ cell_at old place

-- A step from a sound state leaves a sound state, and changes no cell of a published place before it is taken.
abbrev pub StepLaw : Type 0
StepLaw = (step : Step) (old new : Core) (reply : Reply) → Sound old → core_step step old ≡ Some (reply, new) → Sound new × Spares old new
