use Rattle.tmw_show.proofs.Shared.{rules}
use Rattle.tmw_show.proofs.sentences.end_text.Goals as goal

pub returns-in-NoSource : goal.returns-in-NoSource
returns-in-NoSource c = rw c.in-NoSource.is (search rules)

pub returns-in-Unlike : goal.returns-in-Unlike
returns-in-Unlike c = rw c.in-Unlike.is (search rules)
