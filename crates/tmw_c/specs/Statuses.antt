-- The numbers by which a C program is answered.
use Rattle.std.specs.Prelude.{◌≡◌, ℕ}
use Rattle.tmw_c.specs.declared.call_status.CallStatus.{CallStatus}
use Rattle.tmw_c.specs.declared.call_status.CallStatus.TheVariants.{Done, NoHandle, FullHandle, BadRegisters, BadStart, BadBounds, BadSize, BadLimit, Memory, Full, Spent, BadKind, BadRegister, Missing, Closing, OutOfTurn, NotCall, Misfit}

-- the number of a status
abbrev pub number_of : CallStatus → ℕ
number_of Done = 0
number_of NoHandle = 1
number_of FullHandle = 2
number_of BadRegisters = 3
number_of BadStart = 4
number_of BadBounds = 5
number_of BadSize = 6
number_of BadLimit = 7
number_of Memory = 8
number_of Full = 9
number_of Spent = 10
number_of BadKind = 11
number_of BadRegister = 12
number_of Missing = 13
number_of Closing = 14
number_of OutOfTurn = 15
number_of NotCall = 16
number_of Misfit = 17

-- The number is a status's, of which this holds.
abbrev pub Tells : ℕ → (CallStatus → Type 0) → Type 0
Tells number Holds = (status : CallStatus) × (number ≡ number_of status) × Holds status
