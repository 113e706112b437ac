-- What the ring's actors know, in parts, and which part is whose.
use Rattle.tmw_ring.specs.Shared.{Answered, Event, Idle, RingSize, Waiting, ix_of, reader_actor, writer_actor}
use Rattle.std.specs.Prelude.{List, [], if◌then◌else◌, suc, zero, ℕ, ◌+◌, ◌==◌, ◌∷◌}
use Rattle.tmw_ring.specs.declared.seat_part.Made.{Made}
use Rattle.tmw_ring.specs.declared.seat_part.Part.{Part}
use Rattle.tmw_ring.specs.declared.seat_part.Part.TheVariants.{Writes, Reads}
use Rattle.tmw_ring.specs.declared.seat_part.ReaderPart.{ReaderPart}
use Rattle.tmw_ring.specs.declared.seat_part.WriterPart.{WriterPart}

-- what a seat knows: the parts that lie in it
abbrev pub Parts : Type 0
Parts = List Part

-- the actor whose part this is
abbrev pub key : Part → ℕ
key (Writes part) = writer_actor part.number
key (Reads part) = reader_actor

abbrev pub size_of : Part → RingSize
size_of (Writes part) = part.size
size_of (Reads part) = part.size

-- the ring's run, as far as the part knows it
abbrev pub run_of : Part → List Answered
run_of (Writes part) = part.run
run_of (Reads part) = part.run

-- of these events, whose places are counted from this one on: those of this writer, each with its place
abbrev pub made_from : ℕ → ℕ → List Event → List Made
made_from writer place [] = []
made_from writer place (event ∷ events) =
    if event.thread.number == writer
    then record { place = place; event = event } ∷ made_from writer (place + 1) events
    else made_from writer (place + 1) events

-- At the start a writer is idle, and knows nothing.
abbrev pub new_writer : RingSize → ℕ → WriterPart
new_writer size number = record { size = size; number = ix_of number; phase = Idle; made = []; seen = 0; run = [] }

-- the parts of so many writers, whose numbers rise from this one
abbrev pub new_writers : RingSize → ℕ → ℕ → Parts
new_writers size number zero = []
new_writers size number (suc count) = Writes (new_writer size number) ∷ new_writers size (number + 1) count

abbrev pub new_reader : RingSize → ReaderPart
new_reader size = record { size = size; phase = Waiting; taken = []; run = [] }

-- the parts of a new ring, all in one seat
abbrev pub new_parts : RingSize → Parts
new_parts size = Reads (new_reader size) ∷ new_writers size 0 size.writers
