-- What a writer sees between two rounds.
use Rattle.tmw_workers.specs.Shared.{WriterIs}
use Rattle.std.specs.Prelude.{◌≡◌, ◌≤◌, ℕ}

-- The writer has claimed nothing since, and all that it had seen comes before this length of the log, which it has seen now.
pub record HasMet (tail : ℕ) (old new : WriterIs) : Type 0 where
  pub table : new.table ≡ old.table
  pub sized : new.size ≡ old.size
  pub number : new.number ≡ old.number
  pub made : new.made ≡ old.made
  pub reached : old.seen ≤ tail
  pub seen : tail ≤ new.seen

-- The writer is as it was, but may have seen more.
pub record HasOnlySeen (old new : WriterIs) : Type 0 where
  pub table : new.table ≡ old.table
  pub sized : new.size ≡ old.size
  pub number : new.number ≡ old.number
  pub made : new.made ≡ old.made
  pub seen : old.seen ≤ new.seen
