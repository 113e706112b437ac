-- What callers see of a ring, of its writers and of its reader.
use Rattle.tmw_ring.specs.Shared.{Answered, Event, Ix, RingSize, TableId}
use Rattle.std.specs.Prelude.{List, ℕ, ◌≡◌}
use Rattle.tmw_ring.specs.declared.seat_part.Made.{Made}

pub record RingIs : Type 0 where
  pub table : TableId
  pub size : RingSize

-- The ring that it writes into, its number, the places that it has claimed, each with its event, how many places were claimed
-- at least, and the ring's run up to its own last step or its last meeting.
pub record WriterIs : Type 0 where
  pub table : TableId
  pub size : RingSize
  pub number : Ix
  pub made : List Made
  pub seen : ℕ
  pub run : List Answered

-- The ring that it reads from, the events that it has taken, and the ring's run up to its own last step or its last meeting.
pub record ReaderIs : Type 0 where
  pub table : TableId
  pub size : RingSize
  pub taken : List Event
  pub run : List Answered

-- The writer came with this ring.
abbrev pub WriterOf : RingIs → WriterIs → Type 0
WriterOf ring writer = (writer.table ≡ ring.table) × (writer.size ≡ ring.size)

-- The reader came with this ring.
abbrev pub ReaderOf : RingIs → ReaderIs → Type 0
ReaderOf ring reader = (reader.table ≡ ring.table) × (reader.size ≡ ring.size)
