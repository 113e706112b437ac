-- What a machine makes of a text's steps answers the text.
use Rattle.tmw_steps.proofs.Shared.{AnswersSteps, Err, IsMade, IsStepsText, List, Ok, Result, SizeLine, Step, [], append-nil, arith, inl, inr, steps_grammar, sym, ℕ, ◌∙◌}
use Rattle.tmw_lines.specs.TextFault.{EndsSoon}
use Rattle.tmw_report.specs.declared.fault.Fault.{Fault}
use Rattle.tmw_steps.specs.declared.steps_command.RingRun.{RingRun}
use Rattle.tmw_lines.specs.declared.text_fault.TextFault.TheVariants.{Memory as WantsMemory}

-- a whole text is also the beginning of one
soon : (bytes : List ℕ) (size : SizeLine) (steps : List Step) → IsStepsText bytes size steps → EndsSoon steps_grammar bytes
soon bytes size steps t = record {
  begun = record { header = size; items = steps; are_lines = t.are_steps; rest = []; split = t.text ∙ sym (append-nil _) };
  soon = omega arith;
}

pub made-answers : (Ended : Type 0) (bytes : List ℕ) (size : SizeLine) (steps : List Step) (result : Result RingRun Fault)
    → Ended → IsStepsText bytes size steps → IsMade size steps result → AnswersSteps Ended bytes result
made-answers Ended bytes size steps (Ok run) ended text made = (ended, size, steps, text, made)
made-answers Ended bytes size steps (Err fault) ended text (inl refused) = inr (ended, size, steps, text, refused)
made-answers Ended bytes size steps (Err fault) ended text (inr memory) = inl (WantsMemory, memory, soon bytes size steps text)
