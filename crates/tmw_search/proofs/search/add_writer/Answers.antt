use Rattle.tmw_search.proofs.Shared.{arith}
use Rattle.tmw_search.proofs.Bits.{masks}
use Rattle.tmw_search.proofs.search.add_writer.Goals as goal

pub loop-left-preserved : goal.loop-left-preserved
loop-left-preserved c = record { size = grind (arith, masks); made = grind (arith, masks); among = grind (arith, masks) }
