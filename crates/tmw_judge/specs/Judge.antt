-- What `judge` without options promises: from the bytes that its source tells to the lines that its sink takes and the exit status.
use Rattle.tmw_judge.specs.Shared.{AnswersTextFault, AreEvents, Asked, Bounds, Criterion, Event, Fault, Fits, FitsBoth, FromSource, HasTextFault, Header, IsCommandRun, IsVerdict, Rules, ToSink, both_status, fed_of, opacity_of, report_text, rules_for, strict_of, strict_text, trace_grammar, trace_text, verdict_status}
use Rattle.std.specs.Prelude.{◌≡◌, ◌++◌, ◌<◌, ◌^◌, ℕ, List, length, Result, Ok, Err}
use Rattle.tmw_judge.specs.declared.by_criterion.ByCriterion.{ByCriterion}
use Rattle.tmw_judge.specs.declared.by_criterion.ByCriterion.TheVariants.{Opacity, Strict, Both}
use Rattle.tmw_judge.specs.declared.monitors.Monitors.{Monitors}
use Rattle.tmw_judge.specs.declared.report.Report.{Report}
use Rattle.tmw_judge.specs.ByCriterion.{AreFor}
use Rattle.tmw_defs.specs.declared.criterion.Asked.TheVariants as asks
use Rattle.tmw_defs.specs.declared.criterion.Criterion.TheVariants as by
use Rattle.tmw_judge.specs.declared.monitors.Monitors.TheVariants as monitors

-- What the history of a trace with this header is judged by.
abbrev pub trace_rules : Header → Bounds → Criterion → Rules
trace_rules header bounds criterion = rules_for criterion header.registers header.initial bounds

-- The report tells how many events the history has and what the verdict on it is.
pub record IsReportOn (rules : Rules) (history : List Event) (report : Report) : Type 0 where
  pub counted : report.events ≡ length history
  pub judged : IsVerdict rules history report.verdict

-- There is a report on this history by each criterion that is asked for.
abbrev pub AreReports : Header → Bounds → Asked → List Event → ByCriterion Report → Type 0
AreReports header bounds asked history = AreFor asked (λ criterion. IsReportOn (trace_rules header bounds criterion) history)

-- The bytes are the text of a trace, and these are the reports on its history.
pub record AreReportsOf (bounds : Bounds) (asked : Asked) (bytes : List ℕ) (reports : ByCriterion Report) : Type 0 where
  pub header : Header
  pub history : List Event
  pub are_events : AreEvents header history
  pub text : bytes ≡ trace_text header history
  pub tell : AreReports header bounds asked history reports

-- This answers the bytes that a source told, which are all its bytes where `Ended` holds: the reports on the trace of which
-- they are the text, or the first fault that they have. `Io` answers a failed read after bytes that have no fault, and
-- `Memory` a growth that was refused.
abbrev pub AnswersTrace : Bounds → Asked → Type 0 → List ℕ → Result (ByCriterion Report) Fault → Type 0
AnswersTrace bounds asked Ended bytes (Ok reports) = Ended × AreReportsOf bounds asked bytes reports
AnswersTrace bounds asked Ended bytes (Err fault) = AnswersTextFault (HasTextFault trace_grammar Ended bytes) fault

-- The lines that are written of reports, a line each and opacity's first, and the exit status that goes with them.
abbrev pub report_lines : ByCriterion Report → List ℕ
report_lines (Opacity report) = report_text report.events report.verdict
report_lines (Strict report) = strict_text report.events report.verdict
report_lines (Both opacity strict) = report_text opacity.events opacity.verdict ++ strict_text strict.events strict.verdict

abbrev pub report_status : ByCriterion Report → ℕ
report_status (Opacity report) = verdict_status report.verdict
report_status (Strict report) = verdict_status report.verdict
report_status (Both opacity strict) = both_status opacity.verdict strict.verdict

-- What a run of `judge` without options does: an answer to the bytes that its source tells in it, and the answer's lines to its sink.
abbrev pub JudgesBytes : {S K : Type 0} → FromSource S → ToSink K → Bounds → Asked → S → S → K → K → ℕ → Type 0
JudgesBytes From To bounds asked = IsCommandRun From To (AnswersTrace bounds asked) report_lines report_status

-- The criteria that the monitors are for.
abbrev pub asked_by : Monitors → Asked
asked_by (monitors.Opacity monitor) = asks.Opacity
asked_by (monitors.Strict monitor) = asks.Strict
asked_by (monitors.Both both) = asks.Both

-- The history fits each monitor by its criterion.
abbrev pub FitMonitors : Header → Bounds → List Event → Monitors → Type 0
FitMonitors header bounds history (monitors.Opacity monitor) = Fits (trace_rules header bounds by.Opacity) history monitor
FitMonitors header bounds history (monitors.Strict monitor) = Fits (trace_rules header bounds by.Strict) history monitor
FitMonitors header bounds history (monitors.Both both) = FitsBoth (trace_rules header bounds by.Opacity) history both

-- On the way there: monitors for the criteria that are asked for have been fed this history.
pub record AreFed (header : Header) (bounds : Bounds) (asked : Asked) (history : List Event) (monitors : Monitors) : Type 0 where
  pub all : asked_by monitors ≡ asked
  pub each : FitMonitors header bounds history monitors

-- Each of them was fed fewer events than a run may have.
abbrev pub HaveRoom : Monitors → Type 0
HaveRoom (monitors.Opacity monitor) = fed_of monitor < 2 ^ 40
HaveRoom (monitors.Strict monitor) = fed_of monitor < 2 ^ 40
HaveRoom (monitors.Both both) = (fed_of (opacity_of both) < 2 ^ 40) × (fed_of (strict_of both) < 2 ^ 40)
