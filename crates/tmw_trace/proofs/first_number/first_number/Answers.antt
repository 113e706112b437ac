use Rattle.tmw_trace.proofs.Shared.{arith, rules}
use Rattle.tmw_trace.proofs.FirstNumbers.{zero-line}
use Rattle.tmw_trace.proofs.first_number.first_number.Goals as goal

pub returns-in-48-clause-some : goal.returns-in-48-clause-some
returns-in-48-clause-some c = zero-line c.args.bytes.now (omega arith) (omega arith) (omega arith)

pub first_digits-requires-clause-above : goal.first_digits-requires-clause-above
first_digits-requires-clause-above c = search rules
