use Rattle.tmw_search.proofs.window_outcomes.outcomes.Goals as goal

pub returns-then-find_outcomes : goal.returns-then-find_outcomes
returns-then-find_outcomes c = rw c.if-find_outcomes.true at c.find_outcomes.ensures.ends

pub returns-else-find_outcomes : goal.returns-else-find_outcomes
returns-else-find_outcomes c = rw c.if-find_outcomes.false at c.find_outcomes.ensures.ends
