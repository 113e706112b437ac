-- What is read of a workload: from the bytes that a source tells to the workload or a fault.
use Rattle.tmw_drive_command.specs.Shared.{Fault, Io, Json, Memory, Shape}
use Rattle.std.specs.Prelude.{Err, IsTrue, List, Ok, Result, ℕ}
use Rattle.tmw_events.specs.declared.event.Kind.{Kind}
use Rattle.tmw_runs.specs.Scripts.{scripts_of}
use Rattle.tmw_workloads.specs.Json.{IsNoText, IsOtherText, IsWorkloadText}
use Rattle.tmw_workloads.specs.Workload.{is_workload}
use Rattle.tmw_workloads.specs.declared.workload.Workload.{Workload}

-- The bytes are the text of a workload over so many registers.
pub record IsTextOver (registers : ℕ) (bytes : List ℕ) : Type 0 where
  pub scripts : List (List (List Kind))
  pub order : List ℕ
  pub is : IsTrue (is_workload registers scripts order)
  pub text : IsWorkloadText registers scripts order bytes

-- The fault is right of these bytes as a text, which are all that the source has where `Ended` holds: they are no JSON text, or the
-- text of a value that is no workload's. Only tests show that a growth was refused where the fault is `Memory`. `Io` answers a failed
-- read.
abbrev pub IsTextFault : Type 0 → List ℕ → Fault → Type 0
IsTextFault Ended bytes Json = Ended × IsNoText bytes
IsTextFault Ended bytes Shape = Ended × IsOtherText bytes
IsTextFault Ended bytes Io = Ended → ⊥
IsTextFault Ended bytes Memory = Unit {0}
IsTextFault Ended bytes _ = ⊥

-- This answers the bytes that a source told: the workload of which they are the text, or a fault that is right of such a text.
abbrev pub AnswersText : Type 0 → List ℕ → Result Workload Fault → Type 0
AnswersText Ended bytes (Ok workload) =
    Ended × IsWorkloadText workload.registers.number (scripts_of workload.scripts.items) workload.order.items bytes
AnswersText Ended bytes (Err fault) = IsTextFault Ended bytes fault
