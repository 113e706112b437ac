use Rattle.tmw_trace.proofs.Shared.{take_rest}
use Rattle.tmw_trace.proofs.HeaderLines.{no_header}
use Rattle.tmw_trace.proofs.header_line.header_of.Goals as goal

pub returns-in-111-clause-none : goal.returns-in-111-clause-none
returns-in-111-clause-none c =
    no_header c.args.bytes.now c.numbers_of.result (rw (take_rest c.args.bytes.now 14) at c.numbers_of.ensures.none)
