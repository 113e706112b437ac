use Rattle.tmw_search.proofs.ReadSteps.{follows-then, read-more}
use Rattle.tmw_search.proofs.read_consequences.read_by.Goals as goal

pub returns-then-not-read_one-clause-follows : goal.returns-then-not-read_one-clause-follows
returns-then-not-read_one-clause-follows c =
    follows-then c.loop-left.invariant.follows c.if-not-read_one.ensures.follows

pub loop-left-preserved : goal.loop-left-preserved
loop-left-preserved c =
    read-more c.lowest-r.result c.requires.reader c.lowest-r.ensures.within c.lowest-r.ensures.among c.loop-left.invariant
    c.if-not-read_one.ensures.follows c.read_one.ensures.others
