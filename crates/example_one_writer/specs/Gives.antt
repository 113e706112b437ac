-- What the memory may answer.
use Rattle.std.specs.Prelude.{◌≡◌, ◌≤◌}
use Rattle.tmw_events.specs.declared.ix.Ix.{Ix}
use Rattle.tmw_events.specs.declared.registers.Registers.{Registers}
use Rattle.tmw_tm.specs.Answers.{Call, Answer}
use Rattle.tmw_tm.specs.Answers.Call.{Begin, Read, Write, Add, Commit}
use Rattle.tmw_tm.specs.Answers.Answer.{Done, Abort}

-- A register that the memory does not have is answered by an abort.
abbrev pub AbortsPast : Registers → Ix → Answer → Type 0
AbortsPast registers register answer = registers.number ≤ register.number → answer ≡ Abort

-- A begin and a commit are always done, so only a read, a write or an add aborts a transaction.
abbrev pub Gives : Registers → Call → Answer → Type 0
Gives registers Begin answer = answer ≡ Done
Gives registers (Read register) answer = AbortsPast registers register answer
Gives registers (Write register value) answer = AbortsPast registers register answer
Gives registers (Add register addend) answer = AbortsPast registers register answer
Gives registers Commit answer = answer ≡ Done
