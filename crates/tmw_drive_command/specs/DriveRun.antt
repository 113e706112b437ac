-- The text of what a memory made of a workload.
use Rattle.tmw_drive_command.specs.Shared.{Registers, RunOptions, report_text, verdict_status, zeros}
use Rattle.tmw_counts.specs.declared.summary.Summary.{Summary}
use Rattle.std.specs.Prelude.{Bool, List, [], cond, length, ℕ, ◌++◌, ◌||◌, ◌≡◌}
use Rattle.tmw_events.specs.declared.event.Event.{Event}
use Rattle.tmw_report.specs.SummaryLine.{summary_text}
use Rattle.tmw_drive_command.specs.declared.drive_run.DriveRun.{DriveRun}
use Rattle.tmw_trace.specs.Version.{version_of}
use Rattle.tmw_trace.specs.Text.{trace_text}
use Rattle.tmw_trace.specs.declared.header.Header.{Header}

-- The header of a log of so many registers, which all hold 0 at the start: version two where the log has an add call, and
-- else version one.
pub record IsHeaderOf (registers : Registers) (log : List Event) (header : Header) : Type 0 where
  pub version : header.version ≡ version_of log
  pub same_registers : header.registers ≡ registers
  pub initial : header.initial ≡ zeros

-- The log's trace, where it is asked for.
abbrev pub log_text : Bool → DriveRun → List ℕ
log_text trace driven = cond trace (trace_text driven.header driven.outcome.log.items) []

-- The line that reports the number of the log's events and the verdict.
abbrev pub driven_line : DriveRun → List ℕ
driven_line driven = report_text (length driven.outcome.log.items) driven.outcome.verdict

-- The line of the counts, where it is asked for.
abbrev pub asked_line : Bool → Summary → List ℕ
asked_line asked summary = cond asked (summary_text summary.counts) []

-- The trace is asked for, before the report or in its place.
abbrev pub asks_for_trace : RunOptions → Bool
asks_for_trace written = written.trace || written.trace_only

-- The lines behind the trace: the report's, and then that of the counts where it is asked for. With the trace alone there are none.
abbrev pub driven_lines : RunOptions → DriveRun → List ℕ
driven_lines written driven = cond written.trace_only [] (driven_line driven ++ asked_line written.summary driven.summary)

-- What is written: the trace where it is asked for, and these lines.
abbrev pub driven_text : RunOptions → DriveRun → List ℕ
driven_text written driven = log_text (asks_for_trace written) driven ++ driven_lines written driven

abbrev pub driven_status : DriveRun → ℕ
driven_status driven = verdict_status driven.outcome.verdict
