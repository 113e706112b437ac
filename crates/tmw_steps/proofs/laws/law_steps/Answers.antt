-- The law, by its proof for every text.
use Rattle.tmw_steps.proofs.ListTexts.{steps_law}
use Rattle.tmw_steps.proofs.laws.law_steps.Goals as goal

pub returns : goal.returns
returns c = steps_law
