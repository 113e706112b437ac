-- What the proofs of this crate take from the libraries, from the crates below and from its specs.
pub use Rattle.std.proofs.Common.{Bool, Err, IfOk, IsTrue, List, Ok, OnOk, Option, Result, [], ap, append-nil, append_assoc, arith, false, inl, inr, length, length-append, not, refl, rules, subst, sym, true, ℕ, ◌++◌, ◌&&◌, ◌+◌, ◌-◌, ◌<◌, ◌==◌, ◌^◌, ◌||◌, ◌∙◌, ◌∷◌, ◌≡◌, ◌≤◌}
pub use Rattle.std.proofs.lemmas.Bool.{both_ways, cases_Bool, eq-eqb, eqb-true, or_cases}
pub use Rattle.std.specs.Prelude.{take}
pub use Rattle.tmw_counts.proofs.CountedPart.{as_formed, as_formed-le, fine_of, step, take_whole}
pub use Rattle.tmw_counts.specs.CountedPart.{counted_by, is_open}
pub use Rattle.tmw_counts.specs.declared.summary.Summary.{Summary}
pub use Rattle.tmw_defs.proofs.WindowsProof.{length-push, take-push, take_all-push}
pub use Rattle.tmw_defs.specs.declared.criterion.Asked.{Asked}
pub use Rattle.tmw_defs.specs.declared.verdict.Verdict.{Verdict}
pub use Rattle.tmw_events.specs.declared.event.Event.{Event}
pub use Rattle.tmw_lines.specs.GiveItems.{GivesAll}
pub use Rattle.tmw_lines.specs.LineFeeds.{front_of}
pub use Rattle.tmw_lines.specs.Lines.{HasRead, format_by, unread_bytes}
pub use Rattle.tmw_lines.specs.ReadItems.{FailsBehind}
pub use Rattle.tmw_lines.specs.declared.items.Reached.{Reached}
pub use Rattle.tmw_lines.specs.declared.items.Reached.TheVariants.{End, Stop}
pub use Rattle.tmw_lines.specs.declared.lines.Lines.{Lines}
pub use Rattle.tmw_lines.specs.declared.text_fault.TextFault.{TextFault}
pub use Rattle.tmw_lines.specs.declared.text_fault.TextFault.TheVariants.{Memory}
pub use Rattle.tmw_monitor.specs.BothMonitor.{FeedsBoth, opacity_of, strict_of}
pub use Rattle.tmw_monitor.specs.Monitor.{verdict_of}
pub use Rattle.tmw_options.specs.declared.bounds.Bounds.{Bounds}
pub use Rattle.tmw_report.proofs.Quotes.{quoted-behind, quoted-first}
pub use Rattle.tmw_report.specs.Quote.{QuotesLine, number_of}
pub use Rattle.tmw_report.specs.QuotesHeld.{QuotesHeld}
pub use Rattle.tmw_report.specs.SendText.{IsPut, fault_of}
pub use Rattle.tmw_streams.proofs.Transfers.{Tells-more, Tells-none}
pub use Rattle.tmw_streams.specs.Streams.{FromSource, ToSink}
pub use Rattle.tmw_streams.specs.Transfers.{Tells}
pub use Rattle.tmw_trace.specs.Text.{AreEvents, trace_grammar}
pub use Rattle.tmw_trace.specs.declared.header.Header.{Header}
pub use Rattle.tmw_trace.specs.declared.version.Version.{Version}
pub use Rattle.tmw_judge.specs.Answer.{AnswersBy, AreOpen, AreOpenBefore, HasFaultFor, IsAnswer, IsFirstText, IsReadFor, IsWholeText, JudgesWith, judged_lines, judged_status, lacking_lines, plain, summary_lines, told_verdicts}
pub use Rattle.tmw_judge.specs.FeedEvents.{AreFedAllRead, AreFedSoMany, FeedsEach, FeedsEvents, HasReadFirstLine, IsBeginning, ReadsBeginning, TakeEvents, has_open, judges_taking}
pub use Rattle.tmw_judge.specs.Judge.{AnswersTrace, AreFed, AreReports, FitMonitors, HaveRoom, JudgesBytes, asked_by, report_lines, report_status, trace_rules}
pub use Rattle.tmw_judge.specs.Tally.{AreJudged, CountsFor, HasSummary, all_open, any_open, counted_of, counted_part, verdicts_of}
pub use Rattle.tmw_judge.specs.declared.by_criterion.ByCriterion.{ByCriterion}
pub use Rattle.tmw_judge.specs.declared.judge_result.JudgeResult.{JudgeResult}
pub use Rattle.tmw_judge.specs.declared.judges.Judges.{Judges}
pub use Rattle.tmw_judge.specs.declared.monitors.Monitors.{Monitors}
pub use Rattle.tmw_judge.specs.declared.report.Report.{Report}
