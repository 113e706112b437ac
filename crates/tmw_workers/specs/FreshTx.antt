-- A transaction that its memory has not seen.
use Rattle.tmw_workers.specs.Shared.{Tx}
use Rattle.std.specs.Prelude.{[], false, ◌≡◌}

pub record IsFresh (tx : Tx) : Type 0 where
  pub snapshot : tx.snapshot ≡ 0
  pub begun : tx.begun ≡ false
  pub reads : tx.reads.items ≡ []
  pub writes : tx.writes.items ≡ []
