use Rattle.tmw_search.proofs.Shared.{refl}
use Rattle.tmw_search.proofs.ReadSteps.{follows-then, read-next}
use Rattle.tmw_search.proofs.read_consequences.read_all.Goals as goal

pub returns-then-not-read_by : goal.returns-then-not-read_by
returns-then-not-read_by c =
    follows-then c.loop-j.invariant.follows c.if-not-read_by.ensures.follows

pub loop-j-preserved : goal.loop-j-preserved
loop-j-preserved c =
    read-next c.loop-j.invariant c.if-not-read_by.ensures.follows (c.if-not-read_by.ensures.others refl)
