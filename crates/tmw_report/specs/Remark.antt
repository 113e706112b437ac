-- The message about a run that a command writes to the sink for errors beside its report.
use Rattle.tmw_report.specs.Shared.{FromSource, ToSink, decimal}
use Rattle.std.specs.Prelude.{◌≡◌, ◌++◌, ℕ, Bool, List, Option, Some, None, Result, Ok, Err, codes, if◌then◌else◌}
use Rattle.tmw_defs.specs.declared.verdict.Why.{Why}
use Rattle.tmw_defs.specs.declared.verdict.Why.TheVariants.{Transactions, States}
use Rattle.tmw_report.specs.CommandRun.{IsCommandRun}
use Rattle.tmw_report.specs.SendText.{IsSent}
use Rattle.tmw_report.specs.declared.fault.Fault.{Fault}
use Rattle.tmw_report.specs.declared.remark.Remark.{Remark}
use Rattle.tmw_report.specs.declared.remark.Remark.TheVariants.{NothingShown, Undecided, Broken}

-- The run exceeded this bound, and what to do.
abbrev pub undecided_text : Why → List ℕ
undecided_text Transactions =
    codes "undecided: more transactions than --window allows without a quiescent point. Put a barrier after every transaction or two (docs/RECORDING.md)\n"
undecided_text States =
    codes "undecided: more possible states at a quiescent point than --states allows. Read each register before you write it (docs/RECORDING.md)\n"

-- No two transactions overlapped; or the run exceeded a bound; or the event of this number fits no run.
abbrev pub remark_text : Remark → List ℕ
remark_text NothingShown = codes "warning: no two transactions overlapped, so this run tests nothing\n"
remark_text (Undecided why) = undecided_text why
remark_text (Broken at) =
    (codes "warning: event " ++ decimal at)
    ++ codes " is impossible in any run, so the recorder may be wrong (docs/RECORDING.md); don't trust the verdict\n"

abbrev pub nothing_shown_if : Bool → Option Remark
nothing_shown_if shows_nothing = if shows_nothing then Some NothingShown else None

-- The remark is sent to the sink for errors. If there is none, nothing is.
abbrev pub Remarks : {E : Type 0} → ToSink E → Option Remark → E → E → Type 0
Remarks Errors None old new = new ≡ old
Remarks Errors (Some remark) old new = IsSent Errors old new (remark_text remark)

-- An answer tells it if its run shows nothing. A fault tells nothing.
abbrev pub RemarksRun : {E Found : Type 0} → ToSink E → (Found → Bool) → List ℕ → Result Found Fault → E → E → Type 0
RemarksRun Errors shows_nothing bytes (Ok found) old new = Remarks Errors (nothing_shown_if (shows_nothing found)) old new
RemarksRun Errors shows_nothing bytes (Err fault) old new = new ≡ old

-- A run of a command that may also tell the sink for errors something of the bytes and their answer.
pub record IsRemarkedRun {S K E Found : Type 0} (From : FromSource S) (To : ToSink K)
    (IsRight : Type 0 → List ℕ → Result Found Fault → Type 0) (text : Found → List ℕ) (exit : Found → ℕ)
    (IsRemarked : List ℕ → Result Found Fault → E → E → Type 0)
    (source source_after : S) (sink sink_after : K) (errors errors_after : E) (status : ℕ) : Type 0 where
  pub run : IsCommandRun From To IsRight text exit source source_after sink sink_after status
  pub remarked : IsRemarked run.bytes run.answer errors errors_after
