-- What a workload that was read says of its text.
use Rattle.tmw_workloads.specs.Json.{IsWorkloadText}
use Rattle.std.proofs.Common.{List, refl, ℕ, ◌<◌, ◌≡◌}
use Rattle.tmw_workloads.specs.declared.workload.Workload.{Workload}
use Rattle.tmw_runs.specs.Scripts.{scripts_of}
use Rattle.tmw_drive_command.specs.ReadSource.{IsTextOver}
use Rattle.tmw_drive_command.specs.RunDrive.{IsRightFault, fault_of}
use Rattle.tmw_drive.specs.declared.fault.DriveFault.{DriveFault}
use Rattle.tmw_drive.specs.declared.fault.DriveFault.TheVariants.{Memory as LacksMemory, Registers as LacksRegisters}

-- the text of a workload that was read
abbrev pub text_over : (workload : Workload) (bytes : List ℕ)
    → IsWorkloadText workload.registers.number (scripts_of workload.scripts.items) workload.order.items bytes
    → IsTextOver workload.registers.number bytes
text_over workload bytes text =
    record { scripts = scripts_of workload.scripts.items; order = workload.order.items; is = workload.is; text = text }

-- a workload that was read and not driven is answered by a right fault
pub right-drive : (has : ℕ) (Ended : Type 0) (workload : Workload) (bytes : List ℕ) (fault : DriveFault) → Ended
    → IsWorkloadText workload.registers.number (scripts_of workload.scripts.items) workload.order.items bytes
    → (fault ≡ LacksRegisters → has < workload.registers.number) → IsRightFault has Ended bytes (fault_of fault)
right-drive has Ended workload bytes LacksRegisters ended text fewer =
    (ended, workload.registers, fewer refl, text_over workload bytes text)
right-drive has Ended workload bytes LacksMemory ended text fewer = tt
