-- A text names its size and its steps, line by line.
use Rattle.std.proofs.Common.{◌≡◌, ℕ, ◌<◌, ◌^◌, List, drop, get_or, ap}
use Rattle.std.specs.List.{AllByRecursion}
use Rattle.tmw_lines.specs.Grammar.{IsNaming}
use Rattle.tmw_trace.specs.ValueTextInjectivity.{free-values_text, values_text-injective}
use Rattle.tmw_steps.specs.declared.size_line.SizeLine.{SizeLine}
use Rattle.tmw_steps.specs.Text.{size_numbers, size_text, steps_grammar, FitsSize}
use Rattle.tmw_steps.specs.StepTextInjectivity.{step_text-injective, free-step_text}

small-numbers : (size : SizeLine) → FitsSize size → AllByRecursion (λ value. value < 2 ^ 64) (size_numbers size)
small-numbers size fits = (fits.cells, (fits.writers, (fits.limit, tt)))

-- the three numbers name a size
same_size : (a b : SizeLine) → size_numbers a ≡ size_numbers b → a ≡ b
same_size a b is =
    let made : List ℕ → SizeLine = λ ns. record { cells = get_or ns 0 0; writers = get_or ns 1 0; limit = get_or ns 2 0 } in
    ap made is

size_text-injective : (a b : SizeLine) → FitsSize a → FitsSize b → size_text a ≡ size_text b → a ≡ b
size_text-injective a b f g is =
    same_size a b (values_text-injective (size_numbers a) (size_numbers b) (small-numbers a f) (small-numbers b g)
    (ap (λ xs. drop 12 xs) is))

-- sizes and steps have one text each, without a line feed
pub steps_naming : IsNaming steps_grammar
steps_naming = record {
  free_header = λ size fits. free-values_text (size_numbers size) (small-numbers size fits);
  free_item = λ format step fits. free-step_text step fits;
  one_header = size_text-injective;
  one_item = λ format s t fits other. step_text-injective s t fits other;
}
