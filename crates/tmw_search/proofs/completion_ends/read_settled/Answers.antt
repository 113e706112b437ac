use Rattle.tmw_search.proofs.ReadSteps.{follows-settled}
use Rattle.tmw_search.proofs.completion_ends.read_settled.Goals as goal

pub returns-else-is_plain : goal.returns-else-is_plain
returns-else-is_plain c =
    rw c.is_alive.ensures (follows-settled c.if-not-read_all.ensures c.settle.ensures.narrows)
