use Rattle.tmw_show.proofs.Shared.{rules}
use Rattle.tmw_show.proofs.sentence_parts.ReadDisplay.fmt.Goals as goal

pub returns-clause-writes : goal.returns-clause-writes
returns-clause-writes g c = rw (← c.get-register.ensures.value) (search rules)
