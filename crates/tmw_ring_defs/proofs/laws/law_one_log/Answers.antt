use Rattle.tmw_ring_defs.proofs.OneLogProof.{one_log_law}
use Rattle.tmw_ring_defs.proofs.RingLaw.{step_law}
use Rattle.tmw_ring_defs.proofs.RingStart.{new_core-sound}
use Rattle.tmw_ring_defs.proofs.laws.law_one_log.Goals as goal

pub returns : goal.returns
returns c = one_log_law step_law new_core-sound
