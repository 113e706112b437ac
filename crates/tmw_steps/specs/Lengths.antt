-- The longest texts of a size and of a step, and that longer ones are no text of either.
use Rattle.std.proofs.Common.{ℕ, ◌≤◌, List, [], ◌∷◌, length, ap, length-append, arith}
use Rattle.std.specs.Fmt.{decimal}
use Rattle.tmw_trace.specs.Text.{values_text}
use Rattle.tmw_trace.specs.Lengths.{length-decimal, length-kind_text}
use Rattle.tmw_steps.specs.declared.size_line.SizeLine.{SizeLine}
use Rattle.tmw_ring_defs.specs.declared.ring_step.Step.{Step}
use Rattle.tmw_ring_defs.specs.declared.ring_step.Step.TheVariants.{Front, Tail, Claim, Fill, Publish, Peek, Read, Free, Stop}
use Rattle.tmw_steps.specs.declared.steps_format.StepsFormat.{StepsFormat}
use Rattle.tmw_lines.specs.Grammar.{IsNoHeader, IsNoItem}
use Rattle.tmw_steps.specs.Text.{size_text, step_text, steps_grammar, FitsSize, FitsStep}

length-size_text : (size : SizeLine) → FitsSize size → length (size_text size) ≤ 75
length-size_text size fits =
    omega (
      arith,
      length-append (decimal size.cells) (values_text (size.writers ∷ size.limit ∷ [])),
      length-append (decimal size.writers) (values_text (size.limit ∷ [])),
      length-append (decimal size.limit) (values_text []),
      length-decimal size.cells fits.cells,
      length-decimal size.writers fits.writers,
      length-decimal size.limit fits.limit,
    )

length-step_text : (step : Step) → FitsStep step → length (step_text step) ≤ 32
length-step_text (Front writer kind) fits = omega (arith, length-kind_text kind fits)
length-step_text (Tail writer) fits = omega arith
length-step_text (Claim writer) fits = omega arith
length-step_text (Fill writer) fits = omega arith
length-step_text (Publish writer) fits = omega arith
length-step_text Peek fits = omega arith
length-step_text Read fits = omega arith
length-step_text Free fits = omega arith
length-step_text (Stop writer) fits = omega arith

pub long_no_size : (text : List ℕ) → 4096 ≤ length text → IsNoHeader steps_grammar text
long_no_size text long = λ size fits is. absurd (omega (arith, ap length is, length-size_text size fits))

pub long_no_step : (format : StepsFormat) (text : List ℕ) → 4096 ≤ length text → IsNoItem steps_grammar format text
long_no_step format text long = λ step fits is. absurd (omega (arith, ap length is, length-step_text step fits))
