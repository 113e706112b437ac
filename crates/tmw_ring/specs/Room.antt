-- What a writer learns that looks whether several records find room, and how long that holds good.
use Rattle.tmw_ring.specs.Shared.{Answered, HasMade, HasRoomFor, Kind, Me, is_full, is_spent, last_tail, writer_actor}
use Rattle.std.specs.Prelude.{IsFalse, IsTrue, List, [], ℕ, ◌++◌, ◌+◌, ◌≡◌, ◌≤◌}
use Rattle.tmw_ring_defs.specs.RoomLaw.{places_freed}
use Rattle.tmw_ring.specs.RingEnds.{WriterIs}
use Rattle.tmw_ring.specs.Meet.{FindsTail}
use Rattle.tmw_ring.specs.SeatPart.{Parts}
use Rattle.tmw_ring.specs.Record.{IsRefusal}
use Rattle.tmw_ring.specs.SeatParts.{writer_in, IsWriter}
use Rattle.tmw_ring.specs.declared.seat_part.WriterPart.{WriterPart}
use Rattle.tmw_ring.specs.declared.refused.Refused.{Refused}
use Rattle.tmw_ring.specs.declared.refused.Refused.TheVariants.{Full, Spent}

-- what a writer knows that knows this run
abbrev pub with_run : List Answered → WriterPart → WriterPart
with_run run part = record part { run = run }

module _ {S : Type 0} where
  -- A writer's seat has found this front, and knows the run that has freed so many places, in which it has made no step since.
  abbrev pub HasFoundFront : Me S Parts → ℕ → Me S Parts → Type 0
  HasFoundFront old front new =
      IsWriter (with_run (writer_in new.0).run (writer_in old.0)) new
      × HasMade (writer_in old.0).size (writer_actor (writer_in old.0).number) [] (writer_in old.0).run (writer_in new.0).run
      × (front ≡ places_freed (writer_in new.0).run)

-- The writer has found this front, and knows the run that has freed so many places, in which it has made no step since.
pub record FindsFront (front : ℕ) (old new : WriterIs) : Type 0 where
  pub same : new ≡ record old { run = new.run }
  pub since : HasMade old.size (writer_actor old.number) [] old.run new.run
  pub counted : front ≡ places_freed new.run

-- The writer has found this front, and then this tail.
abbrev pub FindsBoth : ℕ → ℕ → WriterIs → WriterIs → Type 0
FindsBoth front tail old new = (between : WriterIs) × FindsFront front old between × FindsTail tail between new

-- The writer has found a front and a tail with which so many records, one after another, find room.
pub record HasFoundRoom (records : ℕ) (old new : WriterIs) : Type 0 where
  pub front : ℕ
  pub tail : ℕ
  pub looked : FindsBoth front tail old new
  pub room : HasRoomFor old.size front tail records

-- The writer has found a front and a tail with which the last of so many records doesn't find room: the ring would be full, or
-- its places would be spent.
abbrev pub LacksRoom : ℕ → WriterIs → Refused → WriterIs → Type 0
LacksRoom records old (Full front tail) new =
    FindsBoth front tail old new × IsTrue (is_full old.size front (last_tail tail records))
    × IsFalse (is_spent old.size (last_tail tail records))
LacksRoom records old (Spent tail) new = (front : ℕ) × FindsBoth front tail old new × IsTrue (is_spent old.size (last_tail tail records))

-- the tail that a refusal tells
abbrev pub refused_tail : Refused → ℕ
refused_tail (Full front tail) = tail
refused_tail (Spent tail) = tail

-- A record whose writer knows a run that goes on from where so many were found to have room, and which is refused, has found that so
-- many places more were claimed.
abbrev pub RoomStaysLaw : Type 0
RoomStaysLaw = (records : ℕ) (old found before after : WriterIs) (has : HasFoundRoom records old found) (since : List Answered)
    (kind : Kind) (refused : Refused) → before.size ≡ old.size → before.run ≡ found.run ++ since → IsRefusal kind before refused after
    → has.tail + records ≤ refused_tail refused
