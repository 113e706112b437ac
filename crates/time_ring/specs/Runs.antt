-- What a run of a ring needs, and what it does.
use Rattle.std.specs.Prelude.{◌≡◌, ◌+◌, ◌*◌, ◌^◌, ◌≤◌, ℕ, List, length, All}
use Rattle.tmw_ring.specs.RingEnds.{RingIs, WriterIs, ReaderIs, WriterOf, ReaderOf}

-- All the ring's writers and its reader are there, and so many events of each writer can be counted.
pub record CanRun (ring : RingIs) (writers : List WriterIs) (reader : ReaderIs) (share : ℕ) : Type 0 where
  pub writers_of : All (WriterOf ring) writers
  pub count : length writers ≡ ring.size.writers
  pub reader_of : ReaderOf ring reader
  pub short : share ≤ 2 ^ 39

-- Of some of the writers all events were taken.
pub record HasRun (ring : RingIs) (share : ℕ) (reader : ReaderIs) (started : ℕ) (after : ReaderIs) : Type 0 where
  pub few : started ≤ ring.size.writers
  pub taken : length after.taken ≡ length reader.taken + started * share
