-- How many events were recorded and taken.
use Rattle.std.specs.Prelude.{◌≡◌, ◌+◌, ℕ, length}
use Rattle.tmw_ring.specs.RingEnds.{RingIs, WriterIs, ReaderIs, WriterOf, ReaderOf}

-- The writer has recorded so many events more, and is the ring's writer with this number as before.
pub record HasMade (ring : RingIs) (count : ℕ) (old new : WriterIs) : Type 0 where
  pub of_ring : WriterOf ring new
  pub number : new.number ≡ old.number
  pub made : length new.made ≡ length old.made + count

-- The reader has taken so many events more, and is the ring's reader as before.
pub record HasTakenMore (ring : RingIs) (count : ℕ) (old new : ReaderIs) : Type 0 where
  pub of_ring : ReaderOf ring new
  pub taken : length new.taken ≡ length old.taken + count
