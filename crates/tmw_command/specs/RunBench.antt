-- What `bench` promises: from the bytes that its source tells to what its sink takes and the exit status.
use Rattle.tmw_command.specs.Shared.{BenchOptions, Fault, FromSource, IsHeaderOf, IsNeededOf, IsRemarkedRun, MatchBool, MemoryIs, Opacity, RemarksRun, ToSink}
use Rattle.tmw_events.specs.declared.registers.Registers.{Registers}
use Rattle.std.specs.Prelude.{Err, List, Ok, Result, length, ℕ, ◌≤◌}
use Rattle.tmw_bench.specs.BenchHeadline.{IsBenched, IsHunted, IsNoBench}
use Rattle.tmw_workers.specs.declared.fault.BenchFault.{BenchFault}
use Rattle.tmw_options.specs.declared.bench_settings.Settings.{Settings}
use Rattle.tmw_ring_defs.specs.declared.ring_fault.RingFault.{RingFault}
use Rattle.tmw_command.specs.BenchRun.{asks_for_log, bench_shows_nothing, bench_status, bench_text, benched_of, hunt_shows_nothing, hunt_status, hunt_text, hunted_of}
use Rattle.tmw_command.specs.declared.bench.bench_run.BenchRun.{BenchRun}
use Rattle.tmw_command.specs.declared.bench.hunt_run.HuntRun.{HuntRun}
use Rattle.tmw_drive_command.specs.ReadSource.{IsTextFault, IsTextOver}
use Rattle.tmw_workers.specs.declared.fault.BenchFault.TheVariants.{Memory as LacksMemory, Registers as LacksRegisters, Ring as HasNoRing, Spawn as LacksThreads}
use Rattle.tmw_report.specs.declared.fault.Fault.TheVariants.{Memory, Registers as TooManyRegisters, Ring, Spawn}

-- The bytes are the text of a workload over no more registers than the memory has, and this is what threads have made of it on the
-- memory: its scripts, round after round, the verdict on the record, from registers that all hold 0, and how each thread has ended.
pub record IsBenchedFrom (memory : MemoryIs) (settings : Settings) (bytes : List ℕ) (run : BenchRun) : Type 0 where
  pub registers : Registers
  pub enough : registers.number ≤ memory.registers
  pub workload : IsTextOver registers.number bytes
  pub header : IsHeaderOf registers run.driven.outcome.log.items run.driven.header
  pub benched : IsBenched memory.gives registers workload.scripts settings (benched_of run)

-- The bytes are the text of a workload over no more registers than the memory has, and this is what threads have made of it, of whose
-- log the last window is told, with a part of it where it is asked why it is violated.
pub record IsHuntedFrom (memory : MemoryIs) (options : BenchOptions) (bytes : List ℕ) (run : HuntRun) : Type 0 where
  pub enough : run.shown.registers.number ≤ memory.registers
  pub workload : IsTextOver run.shown.registers.number bytes
  pub hunted : IsHunted memory.gives run.shown.registers workload.scripts options.settings (hunted_of run)
  pub needed : IsNeededOf Opacity options.why run.shown.registers run.shown.showing run.shown.needed

-- The bytes are the text of a workload, of which no run was judged to its end, by this fault.
pub record IsNoBenchFrom (has : ℕ) (settings : Settings) (bytes : List ℕ) (fault : BenchFault) : Type 0 where
  pub registers : Registers
  pub workload : IsTextOver registers.number bytes
  pub none : IsNoBench has registers.number (length workload.scripts) settings fault

-- The fault by which the command answers that no run was judged to its end.
abbrev pub fault_of : BenchFault → Fault
fault_of LacksRegisters = TooManyRegisters
fault_of (HasNoRing fault) = Ring
fault_of LacksMemory = Memory
fault_of LacksThreads = Spawn

-- The fault is right of these bytes, which are all that the source has where `Ended` holds: they are the text of a workload over more
-- registers than the memory has; or of one for whose scripts no ring has the settings' size; or, where it is `Spawn`, of one for which
-- a ring may have it; or the fault is right of them as a text. Only tests show that a thread could not be started.
abbrev pub IsRightFault : (has : ℕ) → Type 0 → Settings → List ℕ → Fault → Type 0
IsRightFault has Ended settings bytes TooManyRegisters = Ended × IsNoBenchFrom has settings bytes LacksRegisters
IsRightFault has Ended settings bytes Ring = Ended × (fault : RingFault) × IsNoBenchFrom has settings bytes (HasNoRing fault)
IsRightFault has Ended settings bytes Spawn = Ended × IsNoBenchFrom has settings bytes LacksThreads
IsRightFault has Ended settings bytes fault = IsTextFault Ended bytes fault

-- This answers the bytes that a source told: what was found of the workload of which they are the text, or a fault that is right
-- of them.
abbrev pub AnswersBy : {Found : Type 0} → (List ℕ → Found → Type 0) → (has : ℕ) → Settings → Type 0 → List ℕ → Result Found Fault → Type 0
AnswersBy IsFound has settings Ended bytes (Ok found) = Ended × IsFound bytes found
AnswersBy IsFound has settings Ended bytes (Err fault) = IsRightFault has Ended settings bytes fault

-- What threads have made of the workload on the memory, with their log.
abbrev pub AnswersBench : MemoryIs → Settings → Type 0 → List ℕ → Result BenchRun Fault → Type 0
AnswersBench memory settings = AnswersBy (IsBenchedFrom memory settings) memory.registers settings

-- What threads have made of it, with the last window of their log.
abbrev pub AnswersHunt : MemoryIs → BenchOptions → Type 0 → List ℕ → Result HuntRun Fault → Type 0
AnswersHunt memory options = AnswersBy (IsHuntedFrom memory options) memory.registers options.settings

-- What a run of `bench` does: an answer to the bytes that its source tells in it, and the answer's text to its sink. Where the log's
-- trace is asked for the answer has the log, and else its length, its verdict and its last window. The sink for errors is told
-- where the run shows nothing.
abbrev pub BenchesBytes : {S K E : Type 0} → FromSource S → ToSink K → ToSink E → MemoryIs → BenchOptions → S → S → K → K → E → E → ℕ → Type 0
BenchesBytes From To Errors memory options source source_after sink sink_after errors errors_after status =
    MatchBool (asks_for_log options)
    (IsRemarkedRun From To (AnswersBench memory options.settings) (bench_text options) bench_status (RemarksRun Errors bench_shows_nothing)
    source source_after sink sink_after errors errors_after status)
    (IsRemarkedRun From To (AnswersHunt memory options) (hunt_text options) hunt_status (RemarksRun Errors hunt_shows_nothing)
    source source_after sink sink_after errors errors_after status)
