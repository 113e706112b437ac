-- How the call for a new ring is answered.
use Rattle.tmw_ring.specs.Shared.{HasNumbers}
use Rattle.std.specs.Prelude.{All, List, [], get_or, length, ℕ, ◌<◌, ◌≡◌}
use Rattle.tmw_ring.specs.RingEnds.{RingIs, WriterIs, ReaderIs, WriterOf, ReaderOf}

-- The writer of this number has claimed nothing and seen nothing, and no step was made.
pub record IsNewWriter (number : ℕ) (writer : WriterIs) : Type 0 where
  pub numbered : writer.number.number ≡ number
  pub made : writer.made ≡ []
  pub seen : writer.seen ≡ 0
  pub run : writer.run ≡ []

-- These are the first of the ring's writers, in the order of their numbers.
pub record AreNewWriters (ring : RingIs) (writers : List WriterIs) : Type 0 where
  pub of_ring : All (WriterOf ring) writers
  pub each : (number : ℕ) (fallback : WriterIs) → number < length writers → IsNewWriter number (get_or writers number fallback)

-- A new ring of the size of these numbers, with all its writers and its reader.
pub record IsNewRing (cells writers_asked limit : ℕ) (ring : RingIs) (writers : List WriterIs) (reader : ReaderIs) : Type 0 where
  pub sized : HasNumbers cells writers_asked limit ring.size
  pub count : length writers ≡ ring.size.writers
  pub writers_new : AreNewWriters ring writers
  pub reader_of : ReaderOf ring reader
  pub taken : reader.taken ≡ []
  pub run : reader.run ≡ []
