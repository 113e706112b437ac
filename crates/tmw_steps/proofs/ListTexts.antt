-- A text names its size and its steps: two lists of steps with one text are one list.
use Rattle.tmw_steps.proofs.Shared.{steps_grammar, sym, ◌∙◌}
use Rattle.tmw_lines.proofs.TextNames.{lines_text-injective}
use Rattle.tmw_steps.specs.Laws.{StepsLaw}
use Rattle.tmw_steps.specs.GrammarInjectivity.{steps_naming}

pub steps_law : StepsLaw
steps_law bytes size other_size steps other_steps one other =
    lines_text-injective steps_grammar steps_naming size other_size steps other_steps one.are_steps.fit other.are_steps.fit
    (sym one.text ∙ other.text)
