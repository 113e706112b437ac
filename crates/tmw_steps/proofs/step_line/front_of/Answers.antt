use Rattle.tmw_steps.proofs.Shared.{ap, get_or}
use Rattle.tmw_steps.proofs.step_line.front_of.Goals as goal

pub returns-in_default-ix_of-clause-none : goal.returns-in_default-ix_of-clause-none
returns-in_default-ix_of-clause-none c =
    λ writer kind fits is. c.in_default-ix_of.ensures.none writer (ap (λ xs. get_or xs 0 0) is)
