-- What two ends of a ring know when they meet, and what they know afterwards.
use mathlib.Core.Option.{some}
use lib.ListN.{get_elem?}
use Rattle.tmw_ring.specs.Shared.{Answered, Event, Gone, IsRunTo, Me, Step, reader_actor, writer_actor}
use Rattle.std.specs.Prelude.{List, [], length, map, ℕ, ◌++◌, ◌∷◌, ◌≡◌, ◌≤◌}
use Rattle.tmw_ring.specs.RingEnds.{WriterIs, ReaderIs}
use Rattle.tmw_ring.specs.SeatPart.{Parts, made_from, size_of}
use Rattle.tmw_ring.specs.Rule.{Knows}
use Rattle.tmw_ring.specs.declared.seat_part.Part.{Part}
use Rattle.tmw_ring.specs.declared.seat_part.Part.TheVariants.{Writes, Reads}

-- the part after its seat has found tail here, when the ring has run so: a writer has seen so many places
abbrev pub with_tail : ℕ → List Answered → Part → Part
with_tail tail run (Writes part) = Writes (record part { seen = tail; run = run })
with_tail tail run (Reads part) = Reads (record part { run = run })

-- What the part knows is of this log: a writer has claimed the places of its events there and seen no more places than the log
-- has, and the reader has taken the log's first events.
abbrev pub IsOfLog : List Event → Part → Type 0
IsOfLog log (Writes part) = (part.made ≡ made_from part.number.number 0 log) × (part.seen ≤ length log)
IsOfLog log (Reads part) = (rest : List Event) × (log ≡ part.taken ++ rest)

-- What the part knows is of this log, and of this run, which led to the log and has none of its steps that it doesn't know.
pub record IsOf (run : List Answered) (log : List Event) (part : Part) : Type 0 where
  pub of_log : IsOfLog log part
  pub knows : Knows run part
  pub run_to : IsRunTo (size_of part) run log

module _ {S : Type 0} where
  -- The seat has found this tail: there are a run and its log of so many events, and what each of its parts knew is of them.
  abbrev pub HasFoundTail : Step S → Me S Parts → ℕ → Me S Parts → Type 0
  HasFoundTail step before tail after =
      (run : List Answered) × (log : List Event) × (after ≡ (map (with_tail tail run) before.0, before.1)) × (tail ≡ length log)
      × ((place : ℕ) (part : Part) → get_elem? before.0 place ≡ some part → IsOf run log part)

  -- Two seats with one part each have met, and are left with these parts.
  pub record SeatsHaveMet (one other : Part) (one_left other_left : Me S Parts) : Type 0 where
    pub run : List Answered
    pub log : List Event
    pub one_of : IsOf run log one
    pub other_of : IsOf run log other
    pub one_after : one_left ≡ (with_tail (length log) run one ∷ [], [])
    pub other_after : other_left ≡ (with_tail (length log) run other ∷ [], [])

-- In a meeting at this run and its log a writer has found that its places are those of its events there. The log reaches as far
-- as all that it had seen, and now it has seen the whole log, and knows the whole run, in which it has made no step since.
pub record WriterMeets (run : List Answered) (log : List Event) (before after : WriterIs) : Type 0 where
  pub table : after.table ≡ before.table
  pub size : after.size ≡ before.size
  pub number : after.number ≡ before.number
  pub made : after.made ≡ before.made
  pub logged : after.made ≡ made_from after.number.number 0 log
  pub reached : before.seen ≤ length log
  pub seen : length log ≤ after.seen
  pub knows : after.run ≡ run
  pub gone : Gone (writer_actor before.number) before.run [] run
  pub run_to : IsRunTo before.size run log

-- In a meeting at this run and its log the reader is left as it was, but knows the whole run, in which it has made no step since.
-- The log begins with what it has taken.
pub record ReaderMeets (run : List Answered) (log : List Event) (before after : ReaderIs) : Type 0 where
  pub same : after ≡ record before { run = run }
  pub rest : List Event
  pub begins : log ≡ after.taken ++ rest
  pub gone : Gone reader_actor before.run [] run
  pub run_to : IsRunTo before.size run log

-- A writer and the reader have met: there are one run and one log for both.
pub record HaveMet (writer writer_after : WriterIs) (reader reader_after : ReaderIs) : Type 0 where
  pub run : List Answered
  pub log : List Event
  pub writer_meets : WriterMeets run log writer writer_after
  pub reader_meets : ReaderMeets run log reader reader_after

-- Two writers have met: there are one run and one log for both.
pub record WritersHaveMet (one one_after other other_after : WriterIs) : Type 0 where
  pub run : List Answered
  pub log : List Event
  pub one_meets : WriterMeets run log one one_after
  pub other_meets : WriterMeets run log other other_after

-- The writer has found this tail: there are a run and its log of so many events, which it has met as in a meeting.
pub record FindsTail (tail : ℕ) (before after : WriterIs) : Type 0 where
  pub run : List Answered
  pub log : List Event
  pub counted : tail ≡ length log
  pub meets : WriterMeets run log before after
