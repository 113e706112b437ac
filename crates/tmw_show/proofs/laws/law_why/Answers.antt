use Rattle.tmw_show.proofs.WhyProof.{why_law}
use Rattle.tmw_show.proofs.laws.law_why.Goals as goal

pub returns : goal.returns
returns c = why_law c.law_window.ensures
