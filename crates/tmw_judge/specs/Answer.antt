-- What `judge` answers, by its options: from the bytes that its source tells to the lines that its sink takes and the exit status.
use Rattle.tmw_judge.specs.Shared.{AnswersTextFault, AreEvents, Asked, Bounds, EndsSoon, Event, FailsBehind, Fault, FromSource, HasFirstLineFault, HasTextFault, Header, IsRemarkedRun, IsVerdict, Memory, RemarksTrace, Summary, TellsBroken, TextFault, ToSink, Verdict, trace_grammar, trace_text}
use Rattle.std.specs.Prelude.{◌≡◌, ◌⊎◌, ◌++◌, ◌&&◌, ◌<◌, ◌≤◌, ℕ, Bool, true, false, List, [], length, take, Option, Some, None, Result, Ok, Err, if◌then◌else◌}
use Rattle.tmw_defs.specs.declared.verdict.Why.{Why}
use Rattle.tmw_defs.specs.declared.verdict.Verdict.TheVariants.{OpaqueSoFar, StrictSoFar, Malformed, Undecided}
use Rattle.tmw_monitor.specs.declared.broken_rule.BrokenRule.{BrokenRule}
use Rattle.tmw_report.specs.declared.remark.Remark.{Remark}
use Rattle.tmw_report.specs.SummaryLine.{summary_text}
use Rattle.tmw_judge.specs.Lacks.{lacks_if}
use Rattle.tmw_judge.specs.declared.judge_result.JudgeResult.{JudgeResult}
use Rattle.tmw_judge.specs.declared.by_criterion.ByCriterion.{ByCriterion}
use Rattle.tmw_judge.specs.declared.by_criterion.ByCriterion.TheVariants.{Opacity, Strict, Both}
use Rattle.tmw_options.specs.declared.judge_options.JudgeOptions.{JudgeOptions}
use Rattle.tmw_judge.specs.declared.report.Report.{Report}
use Rattle.tmw_judge.specs.Tally.{all_open, any_open, counted_part, HasSummary}
use Rattle.tmw_judge.specs.Judge.{AreReports, report_lines, report_status, trace_rules}
use Rattle.tmw_defs.specs.declared.criterion.Asked.TheVariants as asks
use Rattle.tmw_defs.specs.declared.criterion.Criterion.TheVariants as by
use Rattle.tmw_report.specs.declared.remark.Remark.TheVariants.{Broken as IsBroken, NothingShown, Undecided as IsUndecided}

abbrev pub told_verdicts : ByCriterion Report → ByCriterion Verdict
told_verdicts (Opacity report) = Opacity report.verdict
told_verdicts (Strict report) = Strict report.verdict
told_verdicts (Both opacity strict) = Both opacity.verdict strict.verdict

-- By one at least of the criteria that are asked for, nothing is wrong with this history. So not all verdicts on it are final.
abbrev pub AreOpen : Header → Bounds → Asked → List Event → Type 0
AreOpen header bounds asks.Opacity history = IsVerdict (trace_rules header bounds by.Opacity) history OpaqueSoFar
AreOpen header bounds asks.Strict history = IsVerdict (trace_rules header bounds by.Strict) history StrictSoFar
AreOpen header bounds asks.Both history =
    IsVerdict (trace_rules header bounds by.Opacity) history OpaqueSoFar ⊎ IsVerdict (trace_rules header bounds by.Strict) history StrictSoFar

-- On no shorter prefix of this history are all verdicts final.
abbrev pub AreOpenBefore : Header → Bounds → Asked → List Event → Type 0
AreOpenBefore header bounds asked history = (k : ℕ) → k < length history → AreOpen header bounds asked (take k history)

-- The source has ended, and its bytes are the text of the trace.
pub record IsWholeText (Ended : Type 0) (bytes : List ℕ) (header : Header) (history : List Event) : Type 0 where
  pub ended : Ended
  pub text : bytes ≡ trace_text header history

-- The bytes are the text of the trace, and at most 4,096 more, whatever these are. All verdicts on it are final. On no shorter prefix
-- are all verdicts final: the history ends with the event at which the last became final.
pub record IsFirstText (bounds : Bounds) (asked : Asked) (bytes : List ℕ) (header : Header) (history : List Event)
    (verdicts : ByCriterion Verdict) : Type 0 where
  pub rest : List ℕ
  pub text : bytes ≡ trace_text header history ++ rest
  pub few : length rest ≤ 4096
  pub final : any_open verdicts ≡ false
  pub before : AreOpenBefore header bounds asked history

-- The history that is judged, with these verdicts: that of the whole text; by `--first` the one up to the event at which the last verdict
-- became final, or that of the whole text where none comes.
abbrev pub IsReadFor : Bool → Bounds → Asked → Type 0 → List ℕ → Header → List Event → ByCriterion Verdict → Type 0
IsReadFor false bounds asked Ended bytes header history verdicts = IsWholeText Ended bytes header history
IsReadFor true bounds asked Ended bytes header history verdicts =
    IsFirstText bounds asked bytes header history verdicts ⊎ (IsWholeText Ended bytes header history × (any_open verdicts ≡ true))

-- The bytes have the fault behind the lines of a history on which not all verdicts are final.
pub record FailsWhereOpen (bounds : Bounds) (asked : Asked) (Ended : Type 0) (bytes : List ℕ) (fault : TextFault) : Type 0 where
  pub header : Header
  pub history : List Event
  pub fails : FailsBehind trace_grammar Ended header history bytes fault
  pub are_open : AreOpen header bounds asked history

-- At most 4,096 bytes were read behind the lines of a history. On no shorter prefix of it are all verdicts final.
pub record EndsSoonBehindOpen (bounds : Bounds) (asked : Asked) (bytes : List ℕ) : Type 0 where
  pub soon : EndsSoon trace_grammar bytes
  pub before : AreOpenBefore soon.begun.header bounds asked soon.begun.items

-- The text has the fault, and not behind the event at which the last verdict became final: its first line has it, or a line behind a
-- history on which not all are final. For want of memory, at most 4,096 bytes were read behind a history that goes no further.
abbrev pub HasFaultInTime : Bounds → Asked → Type 0 → List ℕ → TextFault → Type 0
HasFaultInTime bounds asked Ended bytes fault =
    HasFirstLineFault trace_grammar Ended bytes fault ⊎ FailsWhereOpen bounds asked Ended bytes fault
    ⊎ ((fault ≡ Memory) × EndsSoonBehindOpen bounds asked bytes)

-- The fault that is answered: the text's first; by `--first` one that comes no later than the event at which the last verdict became final.
abbrev pub HasFaultFor : Bool → Bounds → Asked → Type 0 → List ℕ → TextFault → Type 0
HasFaultFor false bounds asked = HasTextFault trace_grammar
HasFaultFor true bounds asked = HasFaultInTime bounds asked

-- These are the reports on the history that is judged, the first event of it that fits no run, and, if that is asked for, the counts of
-- its prefix that the verdicts cover.
pub record IsAnswer (first summary : Bool) (bounds : Bounds) (asked : Asked) (Ended : Type 0) (bytes : List ℕ) (answer : JudgeResult) : Type 0 where
  pub header : Header
  pub history : List Event
  pub are_events : AreEvents header history
  pub read : IsReadFor first bounds asked Ended bytes header history (told_verdicts answer.reports)
  pub tell : AreReports header bounds asked history answer.reports
  pub counts : HasSummary summary (counted_part (told_verdicts answer.reports) history) answer.summary
  pub broken : TellsBroken header.registers.number history answer.broken

-- This answers the bytes that a source told, which are all its bytes where `Ended` holds.
abbrev pub AnswersBy : Bool → Bool → Bounds → Asked → Type 0 → List ℕ → Result JudgeResult Fault → Type 0
AnswersBy first summary bounds asked Ended bytes (Ok answer) = IsAnswer first summary bounds asked Ended bytes answer
AnswersBy first summary bounds asked Ended bytes (Err fault) = AnswersTextFault (HasFaultFor first bounds asked Ended bytes) fault

-- The options of a run that reads the whole trace and counts nothing.
abbrev pub plain : Bounds → Asked → JudgeOptions
plain bounds asked = record { bounds = bounds; asked = asked; first = false; summary = false }

abbrev pub Answers : JudgeOptions → Type 0 → List ℕ → Result JudgeResult Fault → Type 0
Answers options = AnswersBy options.first options.summary options.bounds options.asked

-- The line of the counts, if there are counts.
abbrev pub summary_lines : Option Summary → List ℕ
summary_lines None = []
summary_lines (Some summary) = summary_text summary.counts

-- The line of what the run did not test, if there are counts and nothing is wrong.
abbrev pub lacking_lines : Bool → Option Summary → List ℕ
lacking_lines is_fine None = []
lacking_lines is_fine (Some summary) = lacks_if is_fine summary

-- The lines of the reports, then that of the counts, if there are counts, and that of what the run did not test. The status is the
-- reports'.
abbrev pub judged_lines : JudgeResult → List ℕ
judged_lines answer =
    (report_lines answer.reports ++ summary_lines answer.summary) ++ lacking_lines (all_open (told_verdicts answer.reports)) answer.summary

abbrev pub judged_status : JudgeResult → ℕ
judged_status answer = report_status answer.reports

-- There are counts, and by them no two transactions overlapped although there are two threads or more.
abbrev pub none_overlapped : Option Summary → Bool
none_overlapped None = false
none_overlapped (Some summary) = summary.none_overlapped

-- Nothing is wrong by any requested criterion, and by the counts no two transactions overlapped.
abbrev pub shows_nothing : JudgeResult → Bool
shows_nothing answer = all_open (told_verdicts answer.reports) && none_overlapped answer.summary

abbrev pub is_malformed : Verdict → Bool
is_malformed (Malformed at) = true
is_malformed _ = false

-- Each of these says that the history is malformed.
abbrev pub are_malformed : ByCriterion Verdict → Bool
are_malformed (Opacity verdict) = is_malformed verdict
are_malformed (Strict verdict) = is_malformed verdict
are_malformed (Both opacity strict) = is_malformed opacity && is_malformed strict

-- The bound that the history exceeds, if it is undecided by this verdict.
abbrev pub why_undecided : Verdict → Option Why
why_undecided (Undecided at why) = Some why
why_undecided _ = None

-- The bound that it exceeds by one of these verdicts, opacity's first.
abbrev pub any_undecided : ByCriterion Verdict → Option Why
any_undecided (Opacity verdict) = why_undecided verdict
any_undecided (Strict verdict) = why_undecided verdict
any_undecided (Both opacity strict) = either (why_undecided opacity)
  where
    either : Option Why → Option Why
    either (Some why) = Some why
    either None = why_undecided strict

-- The remark on a run whose events all fit: it shows nothing, or it is undecided.
abbrev pub remark_on : Bool → Option Why → Option Remark
remark_on true exceeded = Some NothingShown
remark_on false (Some why) = Some (IsUndecided why)
remark_on false None = None

abbrev pub remark_on_fit : JudgeResult → Option Remark
remark_on_fit answer = remark_on (shows_nothing answer) (any_undecided (told_verdicts answer.reports))

-- An event fits no run, though a verdict says something else of the history; or what is remarked of one whose events fit.
abbrev pub remark_by : Option BrokenRule → JudgeResult → Option Remark
remark_by None answer = remark_on_fit answer
remark_by (Some broken) answer =
    if are_malformed (told_verdicts answer.reports) then remark_on_fit answer else Some (IsBroken broken.at)

abbrev pub remark_of : JudgeResult → Option Remark
remark_of answer = remark_by answer.broken answer

-- What a run of `judge` does. It writes to the sink for errors a remark on the run, or which line has a fault.
abbrev pub JudgesWith : {S K E : Type 0} → FromSource S → ToSink K → ToSink E → JudgeOptions → S → S → K → K → E → E → ℕ → Type 0
JudgesWith From To Errors options =
    IsRemarkedRun From To (Answers options) judged_lines judged_status (RemarksTrace Errors remark_of)
