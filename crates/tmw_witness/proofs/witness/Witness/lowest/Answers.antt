use Rattle.tmw_witness.proofs.Shared.{arith, shr_and_one}
use Rattle.tmw_witness.proofs.witness.Witness.lowest.Goals as goal

pub loop-place-preserved : goal.loop-place-preserved
loop-place-preserved c = record { above = grind (arith, shr_and_one); least = grind (arith, shr_and_one) }
