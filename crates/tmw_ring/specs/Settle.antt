-- What is left of a ring when all its ends have come back.
use Rattle.tmw_ring.specs.Shared.{Answered, Event, FitsKind, Gone, Idle, IsRunTo, header_of, pack, reader_actor, unpacked, writer_actor}
use Rattle.std.specs.Prelude.{All, List, [], get_or, length, slice_index, suc, zero, ℕ, ◌++◌, ◌+◌, ◌<◌, ◌^◌, ◌∷◌, ◌≡◌, ◌≤◌}
use Rattle.std.specs.Mem.Slots.{slots_items, slots_len, IsFull}
use Rattle.atomic_table.specs.declared.owned.Closed.{Closed}
use Rattle.tmw_ring.specs.RingEnds.{WriterIs, ReaderIs}
use Rattle.tmw_ring.specs.SeatPart.{made_from}
use Rattle.tmw_ring.specs.TableWords.{stamp_word, value_word, word_count}
use Rattle.tmw_ring.specs.declared.seat_part.Part.{Part}
use Rattle.tmw_ring.specs.declared.seat_part.Part.TheVariants.{Writes}

-- Each writer stands at the place that is its number.
abbrev pub AreInOrder : List WriterIs → Type 0
AreInOrder writers = (place : ℕ) (fallback : WriterIs) → place < length writers → (get_or writers place fallback).number.number ≡ place

-- One list of events, of which the reader has taken some and the rest is left, has each writer's events at the places that it has
-- claimed, and no other. It is the log of one run, in which each end's steps are those that the end knows.
pub record IsSettled (reader : ReaderIs) (writers : List WriterIs) (left : List Event) : Type 0 where
  pub log : List Event
  pub few : length log ≤ 2 ^ 40
  pub rest : log ≡ reader.taken ++ left
  pub own : All (λ event. event.thread.number < length writers) log
  pub made : (number : ℕ) (fallback : WriterIs) → number < length writers → (get_or writers number fallback).made ≡ made_from number 0 log
  pub seen : (number : ℕ) (fallback : WriterIs) → number < length writers → (get_or writers number fallback).seen ≤ length log
  pub run : List Answered
  pub run_to : IsRunTo reader.size run log
  pub reader_gone : Gone reader_actor reader.run [] run
  pub writers_gone : All (λ writer. Gone (writer_actor writer.number) writer.run [] run) writers

-- the part of a writer that has come back
abbrev pub part_of : WriterIs → Part
part_of writer = Writes (record {
  size = writer.size;
  number = writer.number;
  phase = Idle;
  made = writer.made;
  seen = writer.seen;
  run = writer.run;
})

-- the header and the value in the words of the place's cell, and the event that these tell
abbrev pub header_at : List ℕ → ℕ → ℕ → ℕ
header_at words cells place = header_of (slice_index words (stamp_word cells place))

abbrev pub value_at : List ℕ → ℕ → ℕ → ℕ
value_at words cells place = slice_index words (value_word cells place)

abbrev pub event_at : List ℕ → ℕ → ℕ → Event
event_at words cells place = unpacked (header_at words cells place) (value_at words cells place)

-- the events of so many places from this one on
abbrev pub events_from : List ℕ → ℕ → ℕ → ℕ → List Event
events_from words cells place zero = []
events_from words cells place (suc count) = event_at words cells place ∷ events_from words cells (place + 1) count

-- The words of the place's cell are those of an event.
pub record HasEvent (words : List ℕ) (cells place : ℕ) : Type 0 where
  pub packed : pack (event_at words cells place) ≡ (header_at words cells place, value_at words cells place)
  pub fits : FitsKind (event_at words cells place).kind

-- The table has all words of a ring with so many cells and no slot, and from front to tail each place has an event.
pub record IsLeft {S A : Type 0} (closed : Closed S A) (cells front tail : ℕ) : Type 0 where
  pub full : IsFull closed.words
  pub words : slots_len closed.words ≡ word_count cells
  pub slots : slots_len closed.slots ≡ 0
  pub some : 0 < cells
  pub small : cells ≤ 4096
  pub few : tail ≤ 2 ^ 40
  pub order : front ≤ tail
  pub events : (place : ℕ) → front ≤ place → place < tail → HasEvent (slots_items closed.words) cells place
