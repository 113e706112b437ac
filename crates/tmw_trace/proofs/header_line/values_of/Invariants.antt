use Rattle.tmw_trace.proofs.ValueParts.{AreRead}
use Rattle.tmw_trace.proofs.header_line.values_of.Given as goal

abbrev pub invariant-loop-index : goal.invariant-loop-index
invariant-loop-index l = AreRead l.fn.registers.number l.index l.values l.rest l.bytes
