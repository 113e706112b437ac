use Rattle.tmw_judge.proofs.judge.judge_by.Goals as goal

pub returns-then-options-clause-right : goal.returns-then-options-clause-right
returns-then-options-clause-right g c = rw c.if-options.true c.judge_to.ensures.right

pub returns-else-options-clause-right : goal.returns-else-options-clause-right
returns-else-options-clause-right g c = rw c.if-options.false c.judge_to-else-options.ensures.right
