use Rattle.tmw_lines.proofs.Shared.{arith}
use Rattle.tmw_lines.proofs.FirstLines.{first-end, long_first-feed, long_first-end, long_first-failed}
use Rattle.tmw_lines.proofs.first_line.first_line.Goals as goal

pub returns-in-Feed-clause-reads : goal.returns-in-Feed-clause-reads
returns-in-Feed-clause-reads g c = grind (arith, long_first-feed)

pub returns-in-End-skip_line-clause-reads : goal.returns-in-End-skip_line-clause-reads
returns-in-End-skip_line-clause-reads g c = grind (arith, long_first-end)

pub returns-in-Failed-skip_line-clause-reads : goal.returns-in-Failed-skip_line-clause-reads
returns-in-Failed-skip_line-clause-reads g c = grind (arith, long_first-failed)

pub returns-in-Some-clause-reads : goal.returns-in-Some-clause-reads
returns-in-Some-clause-reads g c = grind arith

pub returns-in-None-clause-reads : goal.returns-in-None-clause-reads
returns-in-None-clause-reads g c = grind arith

pub returns-in-End-clause-reads : goal.returns-in-End-clause-reads
returns-in-End-clause-reads g c = grind (arith, first-end)

pub returns-in-End-2-clause-reads : goal.returns-in-End-2-clause-reads
returns-in-End-2-clause-reads g c = grind arith

pub returns-in-Failed-clause-reads : goal.returns-in-Failed-clause-reads
returns-in-Failed-clause-reads g c = grind arith
