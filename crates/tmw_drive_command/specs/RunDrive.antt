-- What `drive` promises: from the bytes that its source tells to what its sink takes and the exit status.
use Rattle.tmw_drive_command.specs.Shared.{Fault, IsCommandRun, MemoryIs, Registers, RunOptions, zeros}
use Rattle.tmw_streams.specs.Streams.{FromSource, ToSink}
use Rattle.tmw_counts.specs.CountedPart.{part_by}
use Rattle.std.specs.Prelude.{Err, List, Ok, Result, ℕ, ◌<◌, ◌≡◌, ◌≤◌}
use Rattle.tmw_defs.specs.Verdict.{IsVerdict}
use Rattle.tmw_defs.specs.declared.verdict.Verdict.TheVariants.{Malformed}
use Rattle.tmw_counts.specs.Summary.{IsSummary}
use Rattle.tmw_drive.specs.Drive.{IsDriven}
use Rattle.tmw_monitor.specs.Fits.{rules_of}
use Rattle.tmw_options.specs.declared.bounds.Bounds.{Bounds}
use Rattle.tmw_drive_command.specs.DriveRun.{IsHeaderOf, driven_text, driven_status}
use Rattle.tmw_drive_command.specs.ReadSource.{IsTextFault, IsTextOver}
use Rattle.tmw_drive_command.specs.declared.drive_run.DriveRun.{DriveRun}
use Rattle.tmw_drive.specs.declared.fault.DriveFault.{DriveFault}
use Rattle.tmw_report.specs.declared.fault.Fault.TheVariants.{Memory, Registers as TooManyRegisters}
use Rattle.tmw_drive.specs.declared.fault.DriveFault.TheVariants.{Memory as LacksMemory, Registers as LacksRegisters}

-- The bytes are the text of a workload over no more registers than the memory has, and this is what the memory made of it: its
-- scripts were driven in its order, and the verdict is the one on the log, from registers that all hold 0. The summary is that of the part
-- of the log that the verdict covers.
pub record IsDrivenFrom (memory : MemoryIs) (bounds : Bounds) (bytes : List ℕ) (driven : DriveRun) : Type 0 where
  pub registers : Registers
  pub enough : registers.number ≤ memory.registers
  pub workload : IsTextOver registers.number bytes
  pub header : IsHeaderOf registers driven.outcome.log.items driven.header
  pub made : IsDriven memory.gives workload.scripts workload.order driven.outcome.log.items driven.outcome.ends.items
  pub judged : IsVerdict (rules_of registers zeros bounds) driven.outcome.log.items driven.outcome.verdict
  pub formed : (at : ℕ) → driven.outcome.verdict ≡ Malformed at → ⊥
  pub summary : IsSummary (part_by driven.outcome.verdict driven.outcome.log.items) driven.summary

-- The fault by which the command answers that a workload was not driven.
abbrev pub fault_of : DriveFault → Fault
fault_of LacksRegisters = TooManyRegisters
fault_of LacksMemory = Memory

-- The fault is right of these bytes, which are all that the source has where `Ended` holds: they are the text of a workload over more
-- registers than the memory has; or it is right of them as a text.
abbrev pub IsRightFault : (has : ℕ) → Type 0 → List ℕ → Fault → Type 0
IsRightFault has Ended bytes TooManyRegisters =
    Ended × (registers : Registers) × (has < registers.number) × IsTextOver registers.number bytes
IsRightFault has Ended bytes fault = IsTextFault Ended bytes fault

-- This answers the bytes that a source told: what the memory made of the workload of which they are the text, or a fault that is
-- right of them.
abbrev pub AnswersWorkload : MemoryIs → Bounds → Type 0 → List ℕ → Result DriveRun Fault → Type 0
AnswersWorkload memory bounds Ended bytes (Ok driven) = Ended × IsDrivenFrom memory bounds bytes driven
AnswersWorkload memory bounds Ended bytes (Err fault) = IsRightFault memory.registers Ended bytes fault

-- What a run of `drive` does: an answer to the bytes that its source tells in it, and the answer's text to its sink.
abbrev pub DrivesBytes : {S K : Type 0} → FromSource S → ToSink K → MemoryIs → RunOptions → Bounds → S → S → K → K → ℕ → Type 0
DrivesBytes From To memory written bounds =
    IsCommandRun From To (AnswersWorkload memory bounds) (driven_text written) driven_status
