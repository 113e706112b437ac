-- What the proofs of this crate take from the libraries, from the crates below and from its specs.
pub use Rattle.std.proofs.Common.{All, Bool, Err, IsTrue, List, Ok, Result, [], ap, append-nil, append_assoc, arith, codes, drop, false, inl, inr, length, map, max, refl, rules, subst, sym, take-append-drop, true, ℕ, ◌++◌, ◌+◌, ◌-◌, ◌<◌, ◌==◌, ◌^◌, ◌∙◌, ◌∷◌, ◌≡◌, ◌≢◌, ◌≤◌}
pub use Rattle.std.specs.List.{AllByRecursion, Contains, flat_map, list_all}
pub use Rattle.std.specs.Prelude.{IfErr, IfOk, get_or, take}
pub use Rattle.tmw_cuts.specs.Members.{members}
pub use Rattle.tmw_defs.specs.Criteria.{IsFinalBy}
pub use Rattle.tmw_defs.specs.History.{is_well_formed, transactions}
pub use Rattle.tmw_defs.specs.Opaque.{State}
pub use Rattle.tmw_defs.specs.Part.{HasOrderBy}
pub use Rattle.tmw_defs.specs.Verdict.{IsVerdict, IsViolated, Rules}
pub use Rattle.tmw_defs.specs.declared.criterion.Criterion.{Criterion}
pub use Rattle.tmw_defs.specs.declared.criterion.Criterion.TheVariants.{Opacity, Strict}
pub use Rattle.tmw_defs.specs.declared.verdict.Verdict.{Verdict}
pub use Rattle.tmw_events.specs.Text.{FitsKind}
pub use Rattle.tmw_events.specs.declared.event.Event.{Event}
pub use Rattle.tmw_events.specs.declared.registers.Registers.{Registers}
pub use Rattle.tmw_monitor.specs.Fits.{rules_for}
pub use Rattle.tmw_options.specs.declared.bounds.Bounds.{Bounds}
pub use Rattle.tmw_options.specs.declared.show_options.ShowOptions.{ShowOptions}
pub use Rattle.tmw_part.specs.FindPart.{FindsPart, IsMinimalPart, IsSearched}
pub use Rattle.tmw_report.specs.declared.fault.Fault.TheVariants.{Memory}
pub use Rattle.tmw_trace.specs.Text.{AreEvents, trace_grammar, trace_text}
pub use Rattle.tmw_trace.specs.declared.header.Header.{Header}
pub use Rattle.tmw_trace.specs.declared.version.Version.TheVariants.{One, Two}
pub use Rattle.tmw_window.specs.ShownEvents.{IsShown, shown_length}
pub use Rattle.tmw_window.specs.ShownWindow.{IsShowing}
pub use Rattle.tmw_window.specs.StatesLaw.{FitsRegisters, StatesLaw}
pub use Rattle.tmw_window.specs.WindowLaw.{IsJudgedAlike, WindowLaw, at_end}
pub use Rattle.tmw_window.specs.declared.shown_window.ShownWindow.{ShownWindow}
pub use Rattle.tmw_show.specs.Drawing.{last_thread, rows_text}
pub use Rattle.tmw_show.specs.NeededEvents.{IsNeededOf, IsShownFor, IsViolation, marks_of, reason_of}
pub use Rattle.tmw_show.specs.RunShow.{AnswersShow, IsShownOf, shown_events}
pub use Rattle.tmw_show.specs.Sentences.{case_text, derivation_text}
pub use Rattle.tmw_show.specs.TracesLaw.{AreJudgedLike, IsContradictory, IsHeaderFor, TellOf, TracesLaw, rules_from}
pub use Rattle.tmw_show.specs.declared.needed_events.NeededEvents.{NeededEvents}
pub use Rattle.tmw_show.specs.declared.needed_events.NeededEvents.TheVariants.{NotViolated, Part, Unasked}
pub use Rattle.tmw_show.specs.declared.shown_trace.ShownTrace.{ShownTrace}
