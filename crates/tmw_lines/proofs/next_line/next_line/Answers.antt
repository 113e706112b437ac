use Rattle.tmw_lines.proofs.Shared.{arith}
use Rattle.tmw_lines.proofs.NextLines.{next-end, long-feed, long-end, long-failed}
use Rattle.tmw_lines.proofs.next_line.next_line.Goals as goal

pub returns-in-Feed-clause-reads : goal.returns-in-Feed-clause-reads
returns-in-Feed-clause-reads g c = grind (arith, long-feed)

pub returns-in-End-skip_line-clause-reads : goal.returns-in-End-skip_line-clause-reads
returns-in-End-skip_line-clause-reads g c = grind (arith, long-end)

pub returns-in-Failed-skip_line-clause-reads : goal.returns-in-Failed-skip_line-clause-reads
returns-in-Failed-skip_line-clause-reads g c = grind (arith, long-failed)

pub returns-in-Some-clause-reads : goal.returns-in-Some-clause-reads
returns-in-Some-clause-reads g c = grind arith

pub returns-in-None-clause-reads : goal.returns-in-None-clause-reads
returns-in-None-clause-reads g c = grind arith

pub returns-in-End-clause-reads : goal.returns-in-End-clause-reads
returns-in-End-clause-reads g c = grind (arith, next-end)

pub returns-in-End-2-clause-reads : goal.returns-in-End-2-clause-reads
returns-in-End-2-clause-reads g c = grind arith

pub returns-in-Failed-clause-reads : goal.returns-in-Failed-clause-reads
returns-in-Failed-clause-reads g c = grind arith
