use Rattle.tmw_lines.proofs.Shared.{arith}
use Rattle.tmw_lines.proofs.BufferLines.{bad-split}
use Rattle.tmw_lines.proofs.first_line.take_header.Goals as goal

pub returns-in_default-clause-none : goal.returns-in_default-clause-none
returns-in_default-clause-none g c = grind (arith, bad-split)
