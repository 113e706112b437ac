-- What the definitions and contracts of this crate take from the libraries and from the crates below.
pub use Rattle.std.specs.Fmt.{decimal}
pub use Rattle.std.specs.List.{flat_map, list_any}
pub use Rattle.tmw_cuts.specs.Members.{members}
pub use Rattle.tmw_defs.specs.Opaque.{State}
pub use Rattle.tmw_defs.specs.declared.criterion.Criterion.{Criterion}
pub use Rattle.tmw_defs.specs.declared.criterion.Criterion.TheVariants.{Opacity, Strict}
pub use Rattle.tmw_defs.specs.declared.verdict.Verdict.{Verdict}
pub use Rattle.tmw_defs.specs.declared.verdict.Verdict.TheVariants.{Malformed, OpaqueSoFar, StrictSoFar, Undecided, Violated}
pub use Rattle.tmw_events.specs.declared.event.Event.{Event}
pub use Rattle.tmw_events.specs.declared.registers.Registers.{Registers}
pub use Rattle.tmw_kept.specs.KeptEvents.{all_kept, kept_of}
pub use Rattle.tmw_lines.specs.LineFeeds.{line}
pub use Rattle.tmw_monitor.specs.Fits.{rules_for}
pub use Rattle.tmw_monitor.specs.declared.broken_rule.BrokenRule.{BrokenRule}
pub use Rattle.tmw_options.specs.declared.form.Form.TheVariants.{Drawing, Page, Traces}
pub use Rattle.tmw_options.specs.declared.show_options.ShowOptions.{ShowOptions}
pub use Rattle.tmw_part.specs.FindPart.{FindsPart, IsMinimalPart}
pub use Rattle.tmw_reason.specs.declared.reason_case.Reason.{Reason}
pub use Rattle.tmw_reason.specs.declared.reason_step.ValueSource.{ValueSource}
pub use Rattle.tmw_report.specs.CommandRun.{AnswersTextFault, failures_after_answer}
pub use Rattle.tmw_report.specs.Lines.{fault_line, report_by, verdict_status}
pub use Rattle.tmw_report.specs.Quote.{RemarksFault, RemarksTrace}
pub use Rattle.tmw_report.specs.Remark.{IsRemarkedRun, Remarks}
pub use Rattle.tmw_report.specs.declared.fault.Fault.TheVariants.{Memory}
pub use Rattle.tmw_texts.specs.ItemTexts.{blanks, list_json, states_text}
pub use Rattle.tmw_texts.specs.TracesText.{traces_text}
pub use Rattle.tmw_texts.specs.TransactionNames.{label_at, name_text}
pub use Rattle.tmw_texts.specs.ValueNames.{long_values, names_from, shown_kind, value_text}
pub use Rattle.tmw_trace.specs.Text.{AreEvents, trace_grammar, trace_text, values_text}
pub use Rattle.tmw_trace.specs.declared.header.Header.{Header}
