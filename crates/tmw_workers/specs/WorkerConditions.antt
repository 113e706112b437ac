-- What workers are given, and how a bench may fail.
use Rattle.tmw_workers.specs.Shared.{Answer, Call, Kind, Refused, are_transactions, script_at}
use Rattle.std.specs.Prelude.{◌≡◌, ◌<◌, ℕ, List, Option, Some, IsTrue, length, get_or}
use Rattle.tmw_workers.specs.declared.fault.BenchFault.{BenchFault}
use Rattle.tmw_workers.specs.declared.fault.BenchFault.TheVariants.{Registers, Ring, Memory, Spawn}

-- Each answer that the first relation gives, the other gives too.
abbrev pub GivesWithin : (Call → Answer → Type 0) → (Call → Answer → Type 0) → Type 0
GivesWithin gives more = (call : Call) (answer : Answer) → gives call answer → more call answer

-- Each thread's script is of transactions.
abbrev pub AreTransactions : List (List (List Kind)) → Type 0
AreTransactions scripts = (registers : ℕ) × ((thread : ℕ) → IsTrue (are_transactions registers (script_at scripts thread)))

-- Some thread was stopped.
pub record SomeStop (stops : List (Option Refused)) : Type 0 where
  pub thread : ℕ
  pub low : thread < length stops
  pub refused : Refused
  pub stopped : (fallback : Option Refused) → get_or stops thread fallback ≡ Some refused

-- The fault is not one of the workload's size or of the ring's: memory or a thread was refused.
abbrev pub IsOfThreads : BenchFault → Type 0
IsOfThreads Registers = ⊥
IsOfThreads (Ring fault) = ⊥
IsOfThreads Memory = Unit {0}
IsOfThreads Spawn = Unit {0}
