-- The steps of a ring. Each is one load, one store or one addition to one of its words, made by a writer or by the reader, and
-- what the actor then knows.
use Rattle.std.specs.Prelude.{◌==◌, ◌+◌, ◌++◌, ℕ, true, false, [], ◌∷◌, Option, Some, None, slice_get, slice_set, if◌then◌else◌}
use Rattle.std.specs.Option.{option_and_then}
use Rattle.tmw_events.specs.EventOfWords.{unpacked}
use Rattle.tmw_events.specs.declared.event.Kind.{Kind}
use Rattle.tmw_events.specs.declared.ix.Ix.{Ix}
use Rattle.tmw_ring_defs.specs.RingCore.{Core}
use Rattle.tmw_ring_defs.specs.RingCells.{cell_of, set_cell, filled, published}
use Rattle.tmw_ring_defs.specs.Room.{is_spent, is_full, room_phase, room_reply}
use Rattle.tmw_ring_defs.specs.declared.ring_cell.RingCell.{RingCell}
use Rattle.tmw_ring_defs.specs.declared.ring_phase.ReaderPhase.{ReaderPhase}
use Rattle.tmw_ring_defs.specs.declared.ring_phase.ReaderPhase.TheVariants.{Waiting, Ready, Told}
use Rattle.tmw_ring_defs.specs.declared.ring_phase.WriterPhase.{WriterPhase}
use Rattle.tmw_ring_defs.specs.declared.ring_phase.WriterPhase.TheVariants.{Idle, Looked, Cleared, Claimed}
use Rattle.tmw_ring_defs.specs.declared.ring_step.Reply.{Reply}
use Rattle.tmw_ring_defs.specs.declared.ring_step.Reply.TheVariants.{Saw, Place, Filled, Published, Ready as IsReady, NotReady, Word, Taken}
use Rattle.tmw_ring_defs.specs.declared.ring_step.Step.{Step}
use Rattle.tmw_ring_defs.specs.declared.ring_step.Step.TheVariants.{Front, Tail, Claim, Fill, Publish, Peek, Read, Free, Stop}

-- What a step answers and the state after it; `None` where it is not its actor's next.
abbrev pub Stepped : Type 0
Stepped = Option (Reply × Core)

-- the state in which this writer has come so far
abbrev pub with_phase : ℕ → WriterPhase → Core → Core
with_phase writer phase core = record core { writers = slice_set core.writers writer phase }

abbrev pub with_cell : ℕ → RingCell → Core → Core
with_cell place cell core = record core { cells = set_cell core.size.cells place cell core.cells }

-- the cell that the place uses
abbrev pub cell_at : Core → ℕ → RingCell
cell_at core place = cell_of core.size.cells core.cells place

-- An idle writer with an event to record loads front.
abbrev pub front_step : ℕ → Kind → Core → WriterPhase → Stepped
front_step writer kind core Idle = Some (Saw core.front, with_phase writer (Looked kind core.front) core)
front_step writer kind core (Looked _ _) = None
front_step writer kind core (Cleared _) = None
front_step writer kind core (Claimed _ _ _) = None

-- A writer that has looked at front loads tail. With tail as it is now, it has room only where every writer has.
abbrev pub tail_step : ℕ → Core → WriterPhase → Stepped
tail_step writer core Idle = None
tail_step writer core (Looked kind front) = Some (
  room_reply (is_spent core.size core.tail) (is_full core.size front core.tail) front core.tail,
  with_phase writer (room_phase (is_spent core.size core.tail) (is_full core.size front core.tail) kind) core,
)
tail_step writer core (Cleared _) = None
tail_step writer core (Claimed _ _ _) = None

-- A cleared writer adds 1 to tail. It claims the place that tail was, and its event joins the log.
abbrev pub claim_step : Ix → Core → WriterPhase → Stepped
claim_step writer core Idle = None
claim_step writer core (Looked _ _) = None
claim_step writer core (Cleared kind) = Some (
  Place core.tail,
  record core {
    tail = core.tail + 1;
    writers = slice_set core.writers writer.number (Claimed core.tail kind false);
    log = core.log ++ record { thread = writer; kind = kind } ∷ [];
  },
)
claim_step writer core (Claimed _ _ _) = None

-- A writer that has claimed a place stores its event's value there, once.
abbrev pub fill_step : ℕ → Core → WriterPhase → Stepped
fill_step writer core Idle = None
fill_step writer core (Looked _ _) = None
fill_step writer core (Cleared _) = None
fill_step writer core (Claimed place kind false) =
    Some (Filled, with_phase writer (Claimed place kind true) (with_cell place (filled kind (cell_at core place)) core))
fill_step writer core (Claimed place kind true) = None

-- A writer that has filled its place stores the stamp and the header there, and is idle again.
abbrev pub publish_step : Ix → Core → WriterPhase → Stepped
publish_step writer core Idle = None
publish_step writer core (Looked _ _) = None
publish_step writer core (Cleared _) = None
publish_step writer core (Claimed place kind false) = None
publish_step writer core (Claimed place kind true) =
    Some (
      Published place,
      with_phase writer.number Idle
          (with_cell place (published place (record { thread = writer; kind = kind }) (cell_at core place)) core),
    )

-- A waiting reader loads the first word of the next place's cell, and is ready where it has that place's stamp.
abbrev pub peek_step : Core → ReaderPhase → Stepped
peek_step core Waiting =
    if (cell_at core core.front).stamp == core.front + 1
    then Some (IsReady, record core { reader = Ready (cell_at core core.front).header })
    else Some (NotReady, core)
peek_step core (Ready _) = None
peek_step core (Told _ _) = None

-- A ready reader loads the second word.
abbrev pub read_step : Core → ReaderPhase → Stepped
read_step core Waiting = None
read_step core (Ready header) =
    Some (Word (cell_at core core.front).value, record core { reader = Told header (cell_at core core.front).value })
read_step core (Told _ _) = None

-- A reader that knows both words takes the event that they tell: it stores the next front.
abbrev pub free_step : Core → ReaderPhase → Stepped
free_step core Waiting = None
free_step core (Ready _) = None
free_step core (Told header value) = Some (
  Taken (unpacked header value),
  record core {
    front = core.front + 1;
    reader = Waiting;
    taken = core.taken ++ unpacked header value ∷ [];
  },
)

-- A writer steps from its phase, where the ring has such a writer.
abbrev pub by_writer : Ix → Core → (WriterPhase → Stepped) → Stepped
by_writer writer core step = option_and_then step (slice_get core.writers writer.number)

-- Stopping is no step of the ring: it touches no word and no phase.
abbrev pub core_step : Step → Core → Stepped
core_step (Front writer kind) core = by_writer writer core (front_step writer.number kind core)
core_step (Tail writer) core = by_writer writer core (tail_step writer.number core)
core_step (Claim writer) core = by_writer writer core (claim_step writer core)
core_step (Fill writer) core = by_writer writer core (fill_step writer.number core)
core_step (Publish writer) core = by_writer writer core (publish_step writer core)
core_step Peek core = peek_step core core.reader
core_step Read core = read_step core core.reader
core_step Free core = free_step core core.reader
core_step (Stop writer) core = None
