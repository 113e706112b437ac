use Rattle.tmw_steps.proofs.StepNames.{no_digit}
use Rattle.tmw_steps.proofs.step_line.writer_of.Goals as goal

pub returns-in-len1-clause-none : goal.returns-in-len1-clause-none
returns-in-len1-clause-none c = no_digit c.args.bytes.now c.ix_of.result c.ix_of.ensures.none
