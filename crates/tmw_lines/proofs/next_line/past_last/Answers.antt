-- Whatever is held or read behind the greatest number of items' lines is too much.
use Rattle.tmw_lines.proofs.Shared.{arith}
use Rattle.tmw_lines.proofs.NextLines.{past-held, past-read, past-end, past-failed}
use Rattle.tmw_lines.proofs.next_line.past_last.Goals as goal

pub returns-then-not-is_empty-clause-reads : goal.returns-then-not-is_empty-clause-reads
returns-then-not-is_empty-clause-reads g c = grind (arith, past-held)

pub read-requires : goal.read-requires
read-requires g c = grind arith

pub returns-in-Err-clause-reads : goal.returns-in-Err-clause-reads
returns-in-Err-clause-reads g c = grind (arith, past-failed)

pub returns-in-Ok-eq0-clause-reads : goal.returns-in-Ok-eq0-clause-reads
returns-in-Ok-eq0-clause-reads g c = grind (arith, past-end)

pub returns-in-Ok-clause-reads : goal.returns-in-Ok-clause-reads
returns-in-Ok-clause-reads g c = grind (arith, past-read)
