-- What calls do to the transaction where a memory has a sequence lock, which is free while it is even, and keeps what was read,
-- to compare it later.
use Rattle.std.specs.Prelude.{◌≡◌, ◌≢◌, ◌%◌, ℕ, true, false, [], None, MatchOption}
use Rattle.tmw_events.specs.declared.ix.Ix.{Ix}
use Rattle.tmw_events.specs.declared.registers.Registers.{Registers}
use Rattle.tmw_tm.specs.declared.answer.Did.{Did}
use Rattle.tmw_tm.specs.declared.answer.Did.TheVariants.{Done, Abort}
use Rattle.tmw_tm.specs.declared.answer.Got.{Got}
use Rattle.tmw_tm.specs.declared.answer.Got.TheVariants.{Value, Abort as GotAbort}
use Rattle.tmw_tm.specs.declared.tx.Tx.{Tx}
use Rattle.tmw_memories.specs.Calls.{Appends, IsBegun, IsEnded, MayUse, entry, latest}

-- The snapshot is a number of the lock at which it is free.
abbrev pub IsFree : Tx → Type 0
IsFree tx = tx.snapshot % 2 ≡ 0

-- A transaction begins at a snapshot when the lock is free. An abort leaves nothing of it, nor of the one that had begun.
abbrev pub BeginsFree : Tx → Did → Tx → Type 0
BeginsFree old Done new = (old.begun ≡ false) × IsBegun new × IsFree new
BeginsFree old Abort new = IsEnded new

-- The register and this value are the last of what was read. The snapshot may have moved, to one when the lock is free.
abbrev pub KeepsRead : Tx → Ix → ℕ → Tx → Type 0
KeepsRead old register value new =
    Appends old.reads.items (entry register value) new.reads.items
    × (new.writes.items ≡ old.writes.items) × (new.begun ≡ true) × (IsFree old → IsFree new)

-- Where the transaction may use the register, its latest own write answers the read, and nothing changes. Else a value that
-- answers it is kept. An own write is never answered by an abort.
abbrev pub ReadsAndKeeps : Registers → Tx → Ix → Got → Tx → Type 0
ReadsAndKeeps registers old register (Value value) new =
    MayUse registers old register
    × MatchOption (latest old.writes.items register) (KeepsRead old register value new) (λ own. (value ≡ own) × (new ≡ old))
ReadsAndKeeps registers old register GotAbort new =
    IsEnded new × (MayUse registers old register → latest old.writes.items register ≡ None)

-- A commit may be an abort where the transaction has written. One that has written nothing is done at once.
abbrev pub CommitsOrAborts : Tx → Did → Tx → Type 0
CommitsOrAborts old Done new = IsEnded new × (old.begun ≡ true)
CommitsOrAborts old Abort new = IsEnded new × (old.begun ≡ true → old.writes.items ≢ [])
