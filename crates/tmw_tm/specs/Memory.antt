-- What contracts say of a memory, in one record.
use Rattle.std.specs.Prelude.{ℕ}
use Rattle.tmw_tm.specs.Answers.{Call, Answer}

-- How many registers a memory has, and which answers it may give to each call.
pub record MemoryIs : Type 1 where
  pub registers : ℕ
  pub gives : Call → Answer → Type 0

abbrev pub memory_is : ℕ → (Call → Answer → Type 0) → MemoryIs
memory_is registers gives = record { registers = registers; gives = gives }
