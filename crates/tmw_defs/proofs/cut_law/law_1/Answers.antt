use Rattle.tmw_defs.proofs.CutLaws.{cut_law}
use Rattle.tmw_defs.proofs.cut_law.law_1.Goals as goal

pub returns : goal.returns
returns c = cut_law
