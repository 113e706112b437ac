use Rattle.tmw_show.proofs.Shared.{rules}
use Rattle.tmw_show.proofs.sentences.assumption_text.Goals as goal

pub returns : goal.returns
returns c = rw c.in-From.is (search rules)
