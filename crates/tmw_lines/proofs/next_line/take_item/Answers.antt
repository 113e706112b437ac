use Rattle.tmw_lines.proofs.Shared.{arith}
use Rattle.tmw_lines.proofs.BufferLines.{bad-split, length-left}
use Rattle.tmw_lines.proofs.NextLines.{take_item-some}
use Rattle.tmw_lines.proofs.next_line.take_item.Goals as goal

pub returns-clause-some : goal.returns-clause-some
returns-clause-some g c = grind (arith, take_item-some)

pub returns-in_default-clause-none : goal.returns-in_default-clause-none
returns-in_default-clause-none g c = grind (arith, bad-split)

pub returns-clause-less : goal.returns-clause-less
returns-clause-less g c = grind (arith, length-left)
