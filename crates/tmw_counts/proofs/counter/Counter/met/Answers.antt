use Rattle.tmw_counts.proofs.Shared.{rules}
use Rattle.tmw_counts.proofs.counter.Counter.met.Goals as goal

pub returns-then-others : goal.returns-then-others
returns-then-others c = search rules
