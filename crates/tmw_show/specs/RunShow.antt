-- What `show` promises: from the bytes that its source tells to what its sink takes and the exit status.
use Rattle.tmw_show.specs.Shared.{AnswersTextFault, AreEvents, BrokenRule, Criterion, Drawing, Event, Header, IsRemarkedRun, Malformed, Page, RemarksTrace, ShowOptions, Traces, Undecided, Verdict, kept_of, long_values, members, report_by, rules_for, states_text, trace_grammar, trace_text, traces_text, verdict_status}
use Rattle.std.specs.Prelude.{Err, List, None, Ok, Option, Result, Some, ℕ, ◌++◌, ◌+◌, ◌≡◌}
use Rattle.tmw_lines.specs.TextFault.{HasTextFault}
use Rattle.tmw_report.specs.declared.fault.Fault.{Fault}
use Rattle.tmw_report.specs.declared.remark.Remark.{Remark}
use Rattle.tmw_streams.specs.Streams.{FromSource, ToSink}
use Rattle.tmw_window.specs.ShownWindow.{IsShowing}
use Rattle.tmw_options.specs.declared.form.Form.{Form}
use Rattle.tmw_show.specs.declared.shown_trace.ShownTrace.{ShownTrace}
use Rattle.tmw_show.specs.Drawing.{window_text}
use Rattle.tmw_show.specs.NeededEvents.{IsNeededOf, marks_of, needed_text, reason_of}
use Rattle.tmw_show.specs.Page.{page_text, told_of}
use Rattle.tmw_show.specs.Sentences.{found_text}
use Rattle.tmw_show.specs.declared.frame.Frame.TheVariants.{Line}
use Rattle.tmw_report.specs.declared.remark.Remark.TheVariants.{Broken as IsBroken, Undecided as IsUndecided}

-- The bytes are the text of a trace, and this is what is shown of its history.
pub record IsShownOf (options : ShowOptions) (bytes : List ℕ) (shown : ShownTrace) : Type 0 where
  pub header : Header
  pub history : List Event
  pub are_events : AreEvents header history
  pub text : bytes ≡ trace_text header history
  pub registers : shown.registers ≡ header.registers
  pub tells : IsShowing (rules_for options.criterion header.registers header.initial options.bounds) history shown.showing
  pub needed : IsNeededOf options.criterion options.why shown.registers shown.showing shown.needed

-- This answers the bytes that a source told, which are all its bytes where `Ended` holds: what is shown of the trace of which they
-- are the text, or the first fault that they have. `Io` answers a failed read after bytes that have no fault, and `Memory` a
-- growth that was refused.
abbrev pub AnswersShow : ShowOptions → Type 0 → List ℕ → Result ShownTrace Fault → Type 0
AnswersShow options Ended bytes (Ok shown) = Ended × IsShownOf options bytes shown
AnswersShow options Ended bytes (Err fault) = AnswersTextFault (HasTextFault trace_grammar Ended bytes) fault

-- The events that are shown.
abbrev pub shown_events : ShownTrace → List Event
shown_events shown = kept_of (marks_of shown.needed shown.showing.events.items) shown.showing.events.items

-- What is written in this form: the report's line, the states from which the last window begins, those of its events that are shown, and
-- the reason why the window is violated, where it is told; or the events alone, as traces; or a page that draws them. But for the report's
-- line, which numbers events in the trace, the numbers are those in the whole run, of which so many events come before the trace.
abbrev pub drawn_text : Criterion → ℕ → ShownTrace → List ℕ
drawn_text criterion before shown =
    let earlier = before + shown.showing.from in
    report_by criterion shown.showing.fed shown.showing.verdict
    ++ (states_text shown.registers (members shown.showing.states)
    ++ (needed_text shown.needed shown.showing.events.items
    ++ (window_text (told_of criterion before shown) earlier (marks_of shown.needed shown.showing.events.items) shown.showing.events.items
    ++ (let values = long_values (shown_events shown) in
    found_text Line values earlier (members shown.showing.states) shown.showing.events.items (reason_of shown.needed)))))

abbrev pub shown_text : Criterion → ℕ → Form → ShownTrace → List ℕ
shown_text criterion before Drawing shown = drawn_text criterion before shown
shown_text criterion before Traces shown = traces_text shown.registers (shown_events shown) (members shown.showing.states)
shown_text criterion before Page shown = page_text criterion before shown

abbrev pub shown_status : ShownTrace → ℕ
shown_status shown = verdict_status shown.showing.verdict

-- An event after the one that the verdict names fits no run; or else the run is undecided.
abbrev pub remark_by : Option BrokenRule → Verdict → Option Remark
remark_by None (Undecided at why) = Some (IsUndecided why)
remark_by None _ = None
remark_by (Some broken) (Malformed at) = None
remark_by (Some broken) _ = Some (IsBroken broken.at)

abbrev pub remark_of : ShownTrace → Option Remark
remark_of shown = remark_by shown.showing.broken shown.showing.verdict

-- What a run of `show` does: an answer to the bytes that its source tells in it, and the answer's text to its sink. The sink for
-- errors is told a remark on the run, or which line has a fault.
abbrev pub ShowsBytes : {S K E : Type 0} → FromSource S → ToSink K → ToSink E → ShowOptions → S → S → K → K → E → E → ℕ → Type 0
ShowsBytes From To Errors options =
    IsRemarkedRun From To (AnswersShow options) (shown_text options.criterion options.before options.form) shown_status (RemarksTrace Errors remark_of)
