-- What a run of the command line does: from its words and the bytes that its source tells to what its two sinks take and the
-- exit status. The second sink is for errors.
use Rattle.tmw_command.specs.Shared.{Fault, FromSource, IsPut, IsSent, MemoryIs, ShowsBytes, ToSink, Which, fault_line}
use Rattle.std.specs.Prelude.{Err, List, Ok, Result, string_bytes, ℕ, ◌≡◌}
use Rattle.clap.specs.Words.{Text}
use Rattle.tmw_judge.specs.Answer.{JudgesWith}
use Rattle.tmw_command.specs.RunBench.{BenchesBytes}
use Rattle.tmw_drive_command.specs.RunDrive.{DrivesBytes}
use Rattle.tmw_steps.specs.RunSteps.{RunsSteps}
use Rattle.tmw_args.specs.ReadWords.{IsReading}
use Rattle.tmw_command.specs.Version.{version_line}
use Rattle.tmw_args.specs.declared.command_order.Order.{Order}
use Rattle.tmw_args.specs.declared.command_order.Order.TheVariants.{Judge, Show, Drive, Bench, Steps}
use Rattle.tmw_args.specs.declared.refusal.Refusal.{Refusal}
use Rattle.tmw_args.specs.declared.refusal.Refusal.TheVariants.{Help, Version, Usage, Memory}
use Rattle.tmw_command.specs.Memories.{memory_picked}
use Rattle.tmw_command.specs.declared.memories.Memories.{Memories}
use Rattle.tmw_report.specs.declared.fault.Fault.TheVariants.{Memory as WantsMemory, Usage as IsUsage}

-- How many registers each memory has, and what it may answer to a call.
abbrev pub MemoriesAre : Type 1
MemoriesAre = Which → MemoryIs

-- The memory that `which` picks.
abbrev pub by_which : {M : Type 0} → (M → MemoryIs) → Memories M → MemoriesAre
by_which is memories which = is (memory_picked memories which)

-- What a command line reads from and writes to: its source, its sink, and the sink for errors.
pub record Streams (S K E : Type 0) : Type 0 where
  pub source : S
  pub sink : K
  pub errors : E

abbrev pub streams : {S K E : Type 0} → S → K → E → Streams S K E
streams source sink errors = record { source = source; sink = sink; errors = errors }

-- This is done, and nothing is sent to the sink for errors.
abbrev pub Silently : {S K E : Type 0} → (S → S → K → K → ℕ → Type 0) → Streams S K E → Streams S K E → ℕ → Type 0
Silently Does old new status = Does old.source new.source old.sink new.sink status × (new.errors ≡ old.errors)

-- This is done, and something may be sent to the sink for errors.
abbrev pub Aloud : {S K E : Type 0} → (S → S → K → K → E → E → ℕ → Type 0) → Streams S K E → Streams S K E → ℕ → Type 0
Aloud Does old new status = Does old.source new.source old.sink new.sink old.errors new.errors status

-- What the order's command does. Only `judge`, `show` and `bench` may send something to the sink for errors: what a bench tells of how
-- far it has come goes elsewhere, and is in no clause.
abbrev pub RunsOrder : {S K E : Type 0} → FromSource S → ToSink K → ToSink E → MemoriesAre → Order → Streams S K E → Streams S K E → ℕ → Type 0
RunsOrder From To Errors memories (Judge options) = Aloud (JudgesWith From To Errors options)
RunsOrder From To Errors memories (Show options) = Aloud (ShowsBytes From To Errors options)
RunsOrder From To Errors memories (Drive memory written bounds) = Silently (DrivesBytes From To (memories memory) written bounds)
RunsOrder From To Errors memories (Bench memory options) = Aloud (BenchesBytes From To Errors (memories memory) options)
RunsOrder From To Errors memories Steps = Silently (RunsSteps From To)

-- What is answered to words that give no order. Help, and the line of the version, is put to the sink. The line of a wrong command line is put to it whatever
-- becomes of the text that tells what is wrong, which is sent to the sink for errors.
abbrev pub AnswersRefusal : {K E : Type 0} → ToSink K → ToSink E → Refusal → K → K → E → E → ℕ → Type 0
AnswersRefusal To Errors (Help text) sink sink_after errors errors_after status =
    IsPut To sink sink_after (string_bytes text) 0 status × (errors_after ≡ errors)
AnswersRefusal To Errors Version sink sink_after errors errors_after status =
    IsPut To sink sink_after version_line 0 status × (errors_after ≡ errors)
AnswersRefusal To Errors (Usage text) sink sink_after errors errors_after status =
    IsPut To sink sink_after (fault_line IsUsage) 4 status × IsSent Errors errors errors_after (string_bytes text)
AnswersRefusal To Errors Memory sink sink_after errors errors_after status =
    IsPut To sink sink_after (fault_line WantsMemory) 4 status × (errors_after ≡ errors)

-- What words do that were read so. Without an order nothing is read from the source.
abbrev pub RunsReading : {S K E : Type 0} → FromSource S → ToSink K → ToSink E → MemoriesAre → Result Order Refusal → Streams S K E → Streams S K E
    → ℕ → Type 0
RunsReading From To Errors memories (Ok order) old new status = RunsOrder From To Errors memories order old new status
RunsReading From To Errors memories (Err refusal) old new status =
    AnswersRefusal To Errors refusal old.sink new.sink old.errors new.errors status × (new.source ≡ old.source)

-- What the words do, by a reading of them.
pub record RunsWords {S K E : Type 0} (From : FromSource S) (To : ToSink K) (Errors : ToSink E) (memories : MemoriesAre)
    (words : List Text) (old new : Streams S K E) (status : ℕ) : Type 0 where
  pub reading : Result Order Refusal
  pub read : IsReading words reading
  pub run : RunsReading From To Errors memories reading old new status

-- What a command line does, of which the words may not be had: then the fault's line is put to the sink, and no more is done.
abbrev pub RunsCommand : {S K E : Type 0} → FromSource S → ToSink K → ToSink E → MemoriesAre → Result (List Text) Fault → Streams S K E
    → Streams S K E → ℕ → Type 0
RunsCommand From To Errors memories (Ok words) old new status = RunsWords From To Errors memories words old new status
RunsCommand From To Errors memories (Err fault) old new status =
    IsPut To old.sink new.sink (fault_line fault) 4 status × (new.source ≡ old.source) × (new.errors ≡ old.errors)
