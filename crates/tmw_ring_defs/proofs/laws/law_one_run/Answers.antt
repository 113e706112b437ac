use Rattle.tmw_ring_defs.proofs.RingLaw.{step_law}
use Rattle.tmw_ring_defs.proofs.RingStart.{new_core-sound}
use Rattle.tmw_ring_defs.proofs.RunsMachine.{one_run_law}
use Rattle.tmw_ring_defs.proofs.laws.law_one_run.Goals as goal

pub returns : goal.returns
returns c = one_run_law step_law new_core-sound
