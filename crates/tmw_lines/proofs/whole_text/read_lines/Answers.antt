use Rattle.tmw_lines.proofs.Shared.{arith}
use Rattle.tmw_lines.proofs.TextsRead.{all-ends, all-fails}
use Rattle.tmw_lines.proofs.whole_text.read_lines.Goals as goal

pub returns-in-Ok-read_items-clause-text : goal.returns-in-Ok-read_items-clause-text
returns-in-Ok-read_items-clause-text g c =
    let first = c.in-Ok.ensures.header in
    (all-ends first.1 first.2 tt c.new-items.ensures.items c.in-Ok-read_items.ensures.reads).0

pub returns-in-Ok-read_items-clause-ended : goal.returns-in-Ok-read_items-clause-ended
returns-in-Ok-read_items-clause-ended g c = grind arith

pub returns-in-Ok-read_items-clause-lines : goal.returns-in-Ok-read_items-clause-lines
returns-in-Ok-read_items-clause-lines g c = grind arith

pub returns-in-Err-read_items-clause-fault : goal.returns-in-Err-read_items-clause-fault
returns-in-Err-read_items-clause-fault g c = grind (arith, all-fails)
