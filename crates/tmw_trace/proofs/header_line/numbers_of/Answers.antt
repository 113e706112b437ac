use Rattle.tmw_trace.proofs.HeaderLines.{no_registers}
use Rattle.tmw_trace.proofs.header_line.numbers_of.Goals as goal

pub returns-in_default-registers_of-clause-none : goal.returns-in_default-registers_of-clause-none
returns-in_default-registers_of-clause-none c =
    λ header fits. no_registers c.args.bytes.now header c.in_default-registers_of.ensures.none
