-- What each call of a memory does to its transaction: the old transaction, the answer and the new one.
use Rattle.std.specs.Prelude.{◌≡◌, ◌<◌, ◌+◌, ◌%◌, ◌^◌, ◌⊎◌, ◌++◌, ◌==◌, ℕ, Bool, true, false, IsTrue, List, [], ◌∷◌, length, reverse, find, Option, option_map, IfSome}
use Rattle.tmw_events.specs.declared.ix.Ix.{Ix}
use Rattle.tmw_events.specs.declared.registers.Registers.{Registers}
use Rattle.tmw_tm.specs.declared.answer.Did.{Did}
use Rattle.tmw_tm.specs.declared.answer.Did.TheVariants.{Done, Abort}
use Rattle.tmw_tm.specs.declared.answer.Got.{Got}
use Rattle.tmw_tm.specs.declared.answer.Got.TheVariants.{Value, Abort as GotAbort}
use Rattle.tmw_tm.specs.declared.tx.Entry.{Entry}
use Rattle.tmw_tm.specs.declared.tx.Tx.{Tx}

-- The transaction is over, and none of its reads and writes is left.
abbrev pub IsEnded : Tx → Type 0
IsEnded tx = (tx.begun ≡ false) × (tx.reads.items ≡ []) × (tx.writes.items ≡ [])

-- The transaction has begun, and has read and written nothing.
abbrev pub IsBegun : Tx → Type 0
IsBegun tx = (tx.begun ≡ true) × (tx.reads.items ≡ []) × (tx.writes.items ≡ [])

-- The transaction has begun, and the memory has the register.
abbrev pub MayUse : Registers → Tx → Ix → Type 0
MayUse registers tx register = (tx.begun ≡ true) × (register.number < registers.number)

abbrev pub entry : Ix → ℕ → Entry
entry register value = record { register = register; value = value }

-- There was room for one more of at most 16 entries, and it is now the last.
abbrev pub Appends : List Entry → Entry → List Entry → Type 0
Appends old last new = (length old < 16) × (new ≡ old ++ last ∷ [])

-- The value of the latest of these writes to the register, if there is one.
abbrev pub latest : List Entry → Ix → Option ℕ
latest writes register =
    option_map (λ (write : Entry). write.value) (find (λ (write : Entry). write.register.number == register.number) (reverse writes))

-- A transaction may begin when it has not begun yet. An abort leaves nothing of it, nor of the one that had begun. Where each
-- may begin, one that has not begun does.
abbrev pub BeginsBy : Bool → Tx → Did → Tx → Type 0
BeginsBy at_once old Done new = (old.begun ≡ false) × IsBegun new
BeginsBy at_once old Abort new = IsEnded new × (IsTrue at_once → old.begun ≡ true)

-- A read is answered where the transaction may use the register, by the latest own write to it if there is one.
-- It changes nothing, and any other read is an abort.
abbrev pub Reads : Registers → Tx → Ix → Got → Tx → Type 0
Reads registers old register (Value value) new =
    MayUse registers old register × IfSome (latest old.writes.items register) (λ own. value ≡ own) × (new ≡ old)
Reads registers old register GotAbort new = IsEnded new × (MayUse registers old register → ⊥)

-- A write is done where the transaction may use the register and has written less than 16 times: it is then the last of
-- its writes, and nothing else changes. Any other write is an abort.
abbrev pub Writes : Registers → Tx → Ix → ℕ → Did → Tx → Type 0
Writes registers old register value Done new =
    MayUse registers old register × Appends old.writes.items (entry register value) new.writes.items
    × (new.reads.items ≡ old.reads.items) × (new.begun ≡ true) × (new.snapshot ≡ old.snapshot)
Writes registers old register value Abort new = IsEnded new × (MayUse registers old register → length old.writes.items ≡ 16)

-- An add is a read, then a write of the sum modulo 2^64. It answers the value that was read, and an abort of either is its own.
abbrev pub Adds : (Tx → Ix → Got → Tx → Type 0) → (Tx → Ix → ℕ → Did → Tx → Type 0) → Tx → Ix → ℕ → Got → Tx → Type 0
Adds reads writes old register addend (Value value) new =
    (between : Tx) × reads old register (Value value) between × writes between register ((value + addend) % 2 ^ 64) Done new
Adds reads writes old register addend GotAbort new =
    reads old register GotAbort new
    ⊎ ((value : ℕ) × (between : Tx) × reads old register (Value value) between × writes between register ((value + addend) % 2 ^ 64) Abort new)

-- A commit is done where the transaction has begun, and any other is an abort. Nothing is left of it either way.
abbrev pub Commits : Tx → Did → Tx → Type 0
Commits old Done new = IsEnded new × (old.begun ≡ true)
Commits old Abort new = IsEnded new × (old.begun ≡ false)
