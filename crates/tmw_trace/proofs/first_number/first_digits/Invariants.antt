use Rattle.tmw_trace.proofs.FirstNumbers.{AreDigits}
use Rattle.tmw_trace.proofs.first_number.first_digits.Given as goal

abbrev pub invariant-loop-index : goal.invariant-loop-index
invariant-loop-index l = AreDigits l.number l.index l.bytes
