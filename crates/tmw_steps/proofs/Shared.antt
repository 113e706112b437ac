-- What the proofs of this crate take from the libraries, from the crates below and from its specs.
pub use Rattle.std.proofs.Common.{Err, IfNone, List, None, Ok, Option, Result, Some, [], ap, append-nil, arith, codes, drop, get_or, inl, inr, length, length-drop, refl, rules, subst, sym, ℕ, ◌++◌, ◌∙◌, ◌∷◌, ◌≡◌, ◌≢◌}
pub use Rattle.std.proofs.lemmas.List.{drop_all, take_rest}
pub use Rattle.tmw_events.specs.Text.{FitsKind, digit, event_text, kind_text}
pub use Rattle.tmw_ring_defs.specs.declared.ring_step.Step.{Step}
pub use Rattle.tmw_streams.proofs.Puts.{Puts-front, Puts-more}
pub use Rattle.tmw_steps.specs.ReplyText.{counts_text, lines_text}
pub use Rattle.tmw_steps.specs.RunSteps.{AnswersSteps, IsMade, IsRunOf, IsStepsText}
pub use Rattle.tmw_steps.specs.Text.{FitsSize, FitsStep, size_numbers, step_text, steps_grammar, steps_text}
pub use Rattle.tmw_steps.specs.declared.size_line.SizeLine.{SizeLine}
