-- What each step of the reader tells it, and what a caller is told of a taking.
use Rattle.tmw_ring.specs.Shared.{Answered, AreOfEvent, Event, Free, HasMade, Me, Peek, Read, Ready, Told, Waiting, header_of, reader_actor, stamp_of, unpacked}
use Rattle.std.specs.Prelude.{List, [], if◌then◌else◌, length, ℕ, ◌++◌, ◌+◌, ◌==◌, ◌^◌, ◌∷◌, ◌≡◌, ◌≤◌}
use Rattle.tmw_ring_defs.specs.declared.ring_phase.ReaderPhase.{ReaderPhase}
use Rattle.tmw_ring.specs.RingEnds.{ReaderIs}
use Rattle.tmw_ring.specs.SeatPart.{Parts}
use Rattle.tmw_ring.specs.SeatParts.{reader_in, IsReader}
use Rattle.tmw_ring.specs.declared.seat_part.ReaderPart.{ReaderPart}
use Rattle.tmw_ring_defs.specs.declared.ring_step.Reply.TheVariants.{Ready as IsReady, NotReady, Word, Taken}

-- how far the reader is that has taken so many events and found this word first in the next place's cell
abbrev pub phase_after : ℕ → ℕ → ReaderPhase
phase_after count word = if stamp_of word == count + 1 then Ready (header_of word) else Waiting

abbrev pub after_look : ReaderPart → ℕ → List Answered → ReaderPart
after_look part word run = record part { phase = phase_after (length part.taken) word; run = run }

-- how far a ready reader is after it read this value
abbrev pub phase_with : ReaderPhase → ℕ → ReaderPhase
phase_with Waiting value = Waiting
phase_with (Ready header) value = Told header value
phase_with (Told header old) value = Told header old

abbrev pub after_read : ReaderPart → ℕ → List Answered → ReaderPart
after_read part value run = record part { phase = phase_with part.phase value; run = run }

-- the event whose words the reader has read
abbrev pub next_event : ReaderPhase → Event
next_event Waiting = unpacked 0 0
next_event (Ready header) = unpacked header 0
next_event (Told header value) = unpacked header value

abbrev pub after_free : ReaderPart → List Answered → ReaderPart
after_free part run = record part { phase = Waiting; taken = part.taken ++ next_event part.phase ∷ []; run = run }

-- the reader's steps, each as it is answered
abbrev pub peeking : ℕ → ReaderPart → Answered
peeking word part = record { step = Peek; reply = if stamp_of word == length part.taken + 1 then IsReady else NotReady }

abbrev pub reading : ℕ → Answered
reading value = record { step = Read; reply = Word value }

abbrev pub freeing : Event → Answered
freeing event = record { step = Free; reply = Taken event }

-- The reader with this part has made this step on the ring, which then has run so.
abbrev pub ReaderMade : ReaderPart → Answered → List Answered → Type 0
ReaderMade part answered run = HasMade part.size reader_actor (answered ∷ []) part.run run

-- If the reader was told both words, they are an event's.
abbrev pub IsToldEvent : ReaderPhase → Type 0
IsToldEvent Waiting = Unit {0}
IsToldEvent (Ready header) = Unit {0}
IsToldEvent (Told header value) = AreOfEvent header value

-- It is the seat of a reader that has taken so many events and knows that the next place is published.
pub record IsReadyReader {S : Type 0} (count : ℕ) (me : Me S Parts) : Type 0 where
  pub header : ℕ
  pub seated : IsReader (reader_in me.0) me
  pub ready : (reader_in me.0).phase ≡ Ready header
  pub counted : length (reader_in me.0).taken ≡ count

-- It is the seat of a reader that has taken so many events and knows both words of the next.
pub record IsToldReader {S : Type 0} (count : ℕ) (me : Me S Parts) : Type 0 where
  pub header : ℕ
  pub value : ℕ
  pub seated : IsReader (reader_in me.0) me
  pub told : (reader_in me.0).phase ≡ Told header value
  pub counted : length (reader_in me.0).taken ≡ count

-- The reader found this word first in the next place's cell.
pub record StampSeen {S : Type 0} (me : Me S Parts) (word : ℕ) (after : Me S Parts) : Type 0 where
  pub seated : IsReader (after_look (reader_in me.0) word (reader_in after.0).run) after
  pub steps : ReaderMade (reader_in me.0) (peeking word (reader_in me.0)) (reader_in after.0).run
  pub few : length (reader_in me.0).taken ≤ 2 ^ 40

-- The reader found this word second.
pub record ValueRead {S : Type 0} (me : Me S Parts) (value : ℕ) (after : Me S Parts) : Type 0 where
  pub seated : IsReader (after_read (reader_in me.0) value (reader_in after.0).run) after
  pub steps : ReaderMade (reader_in me.0) (reading value) (reader_in after.0).run
  pub event : IsToldEvent (phase_with (reader_in me.0).phase value)

-- The reader freed the place, and has taken its event.
pub record PlaceFreed {S : Type 0} (me after : Me S Parts) : Type 0 where
  pub seated : IsReader (after_free (reader_in me.0) (reader_in after.0).run) after
  pub steps : ReaderMade (reader_in me.0) (freeing (next_event (reader_in me.0).phase)) (reader_in after.0).run
  pub few : length (reader_in after.0).taken ≤ 2 ^ 40

-- the reader's steps, as it takes this event, whose value is in this word
abbrev pub taking : (word : ℕ) → Event → List Answered
taking word event =
    record { step = Peek; reply = IsReady } ∷ record { step = Read; reply = Word word } ∷ record { step = Free; reply = Taken event } ∷ []

-- the reader's step, where the next place was not published
abbrev pub finding_none : List Answered
finding_none = record { step = Peek; reply = NotReady } ∷ []

-- The reader took this event, in just the steps of one taking.
pub record HasTaken (old : ReaderIs) (event : Event) (new : ReaderIs) : Type 0 where
  pub taken : new.taken ≡ old.taken ++ event ∷ []
  pub few : length new.taken ≤ 2 ^ 40
  pub word : ℕ
  pub steps : HasMade old.size reader_actor (taking word event) old.run new.run

-- The reader took nothing, in just one step, which found that the next place was not published.
pub record HasFoundNone (old new : ReaderIs) : Type 0 where
  pub taken : new.taken ≡ old.taken
  pub steps : HasMade old.size reader_actor finding_none old.run new.run
