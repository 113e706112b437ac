-- What the definitions and contracts of this crate take from the libraries and from the crates below.
pub use Rattle.std.proofs.Common.{append-nil, append_assoc}
pub use Rattle.tmw_counts.specs.CountedPart.{counted_by, is_open}
pub use Rattle.tmw_counts.specs.declared.summary.Summary.{Summary}
pub use Rattle.tmw_defs.specs.Verdict.{IsVerdict, Rules}
pub use Rattle.tmw_defs.specs.declared.criterion.Asked.{Asked}
pub use Rattle.tmw_defs.specs.declared.criterion.Criterion.{Criterion}
pub use Rattle.tmw_defs.specs.declared.verdict.Verdict.{Verdict}
pub use Rattle.tmw_events.specs.declared.event.Event.{Event}
pub use Rattle.tmw_lines.specs.Lines.{HasFailed, HasRead, IsNew, IsOver, unread_bytes}
pub use Rattle.tmw_lines.specs.ReadItems.{EndsBehind, FailsBehind, FailsHolding}
pub use Rattle.tmw_lines.specs.Taker.{Taking}
pub use Rattle.tmw_lines.specs.TextFault.{EndsSoon, HasFirstLineFault, HasTextFault, reading_failures}
pub use Rattle.tmw_lines.specs.declared.items.Reached.{Reached}
pub use Rattle.tmw_lines.specs.declared.items.Reached.TheVariants.{End, Stop}
pub use Rattle.tmw_lines.specs.declared.lines.Lines.{Lines}
pub use Rattle.tmw_lines.specs.declared.text_fault.TextFault.{TextFault}
pub use Rattle.tmw_lines.specs.declared.text_fault.TextFault.TheVariants.{Memory}
pub use Rattle.tmw_monitor.specs.BothMonitor.{FitsBoth, opacity_of, strict_of}
pub use Rattle.tmw_monitor.specs.BrokenRule.{TellsBroken}
pub use Rattle.tmw_monitor.specs.Fits.{Fits, rules_for}
pub use Rattle.tmw_monitor.specs.Monitor.{fed_of, verdict_of}
pub use Rattle.tmw_options.specs.declared.bounds.Bounds.{Bounds}
pub use Rattle.tmw_report.specs.CommandRun.{AnswersTextFault, IsCommandRun, failures_after_answer}
pub use Rattle.tmw_report.specs.Lines.{both_status, fault_line, report_text, strict_text, verdict_status}
pub use Rattle.tmw_report.specs.Quote.{RemarksFault, RemarksTrace}
pub use Rattle.tmw_report.specs.Remark.{IsRemarkedRun, Remarks}
pub use Rattle.tmw_report.specs.declared.fault.Fault.{Fault}
pub use Rattle.tmw_streams.specs.Streams.{FromSource, ToSink}
pub use Rattle.tmw_streams.specs.Transfers.{Tells}
pub use Rattle.tmw_trace.specs.Text.{AreEvents, trace_grammar, trace_text}
pub use Rattle.tmw_trace.specs.declared.header.Header.{Header}
pub use Rattle.tmw_trace.specs.declared.version.Version.{Version}
