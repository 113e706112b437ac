use Rattle.tmw_lines.proofs.Shared.{arith, drop_all}
use Rattle.tmw_lines.proofs.line_length.length_before.Goals as goal

pub returns : goal.returns
returns c = grind (arith, drop_all)
