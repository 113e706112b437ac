-- What a seat of a ring's table knows, as its writer or its reader, and how what it knows is cut in two.
use Rattle.tmw_ring.specs.Shared.{Idle, Ix, Me, RingSize, TableId, Waiting}
use Rattle.std.specs.Prelude.{[], length, ℕ, ◌^◌, ◌∷◌, ◌≡◌}
use Rattle.std.proofs.Common.{refl}
use Rattle.std.proofs.lemmas.Bool.{leb-true}
use Rattle.tmw_ring.specs.RingEnds.{WriterIs, ReaderIs}
use Rattle.tmw_ring.specs.SeatPart.{Parts, new_writer, new_reader}
use Rattle.tmw_ring.specs.TableWords.{word_count}
use Rattle.tmw_ring.specs.declared.seat_part.Part.TheVariants.{Writes, Reads}
use Rattle.tmw_ring.specs.declared.seat_part.ReaderPart.{ReaderPart}
use Rattle.tmw_ring.specs.declared.seat_part.WriterPart.{WriterPart}

-- the least size, which stands where a seat has no part
abbrev pub least_size : RingSize
least_size = record {
  cells = 1;
  writers = 1;
  limit = 1;
  some_writers = leb-true 1 1 refl;
  most_writers = leb-true 1 8 refl;
  enough_cells = leb-true 1 1 refl;
  most_cells = leb-true 1 4096 refl;
  enough_places = leb-true 1 1 refl;
  most_places = leb-true 1 (2 ^ 40) refl;
}

-- the writer whose part is the seat's first
abbrev pub writer_in : Parts → WriterPart
writer_in [] = new_writer least_size 0
writer_in (Writes part ∷ rest) = part
writer_in (Reads part ∷ rest) = new_writer least_size 0

-- the reader whose part is the seat's first
abbrev pub reader_in : Parts → ReaderPart
reader_in [] = new_reader least_size
reader_in (Writes part ∷ rest) = new_reader least_size
reader_in (Reads part ∷ rest) = part

-- the first part alone, and the others
abbrev pub first_alone : Parts → Parts
first_alone [] = []
first_alone (first ∷ rest) = first ∷ []

abbrev pub without_first : Parts → Parts
without_first [] = []
without_first (first ∷ rest) = rest

-- the second part alone, and the others
abbrev pub second_alone : Parts → Parts
second_alone [] = []
second_alone (first ∷ rest) = first_alone rest

abbrev pub without_second : Parts → Parts
without_second [] = []
without_second (first ∷ rest) = first ∷ without_first rest

module _ {S : Type 0} where
  -- The seat has this writer's part alone, and no slot.
  abbrev pub IsWriter : WriterPart → Me S Parts → Type 0
  IsWriter part me = me ≡ (Writes part ∷ [], [])

  -- The seat has this reader's part alone, and no slot.
  abbrev pub IsReader : ReaderPart → Me S Parts → Type 0
  IsReader part me = me ≡ (Reads part ∷ [], [])

-- It is the seat of the idle writer of this number.
pub record IsIdleWriter {S : Type 0} (number : Ix) (me : Me S Parts) : Type 0 where
  pub seated : IsWriter (writer_in me.0) me
  pub idle : (writer_in me.0).phase ≡ Idle
  pub numbered : (writer_in me.0).number ≡ number

-- It is the seat of the waiting reader, which has taken so many events.
pub record IsWaitingReader {S : Type 0} (count : ℕ) (me : Me S Parts) : Type 0 where
  pub seated : IsReader (reader_in me.0) me
  pub waiting : (reader_in me.0).phase ≡ Waiting
  pub counted : length (reader_in me.0).taken ≡ count

-- It is the table of a ring of this size, which was told the size and has the ring's words and no slot.
pub record IsRingTable (size told : RingSize) (table : TableId) : Type 0 where
  pub told_it : told ≡ size
  pub words : table.words ≡ word_count size.cells
  pub slots : table.slots ≡ 0

-- what callers see of a writer, and of the reader
abbrev pub writer_is : TableId → WriterPart → WriterIs
writer_is table part = record {
  table = table;
  size = part.size;
  number = part.number;
  made = part.made;
  seen = part.seen;
  run = part.run;
}

-- what callers see of the writer who has this seat
abbrev pub writer_at : {S : Type 0} → TableId → Me S Parts → WriterIs
writer_at table seat = writer_is table (writer_in seat.0)

abbrev pub reader_is : TableId → ReaderPart → ReaderIs
reader_is table part = record { table = table; size = part.size; taken = part.taken; run = part.run }
