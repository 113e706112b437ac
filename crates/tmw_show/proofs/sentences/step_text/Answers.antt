use Rattle.tmw_show.proofs.Shared.{rules}
use Rattle.tmw_show.proofs.sentences.step_text.Goals as goal

pub returns-in-RealTime : goal.returns-in-RealTime
returns-in-RealTime c = rw c.in-RealTime.is (search rules)

pub returns-in-Overwritten : goal.returns-in-Overwritten
returns-in-Overwritten c = rw c.in-Overwritten.is (search rules)
