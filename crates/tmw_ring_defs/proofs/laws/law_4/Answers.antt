use Rattle.tmw_ring_defs.proofs.RingLaw.{step_law}
use Rattle.tmw_ring_defs.proofs.laws.law_4.Goals as goal

pub returns : goal.returns
returns c = step_law
