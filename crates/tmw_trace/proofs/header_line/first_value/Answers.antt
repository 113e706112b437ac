use Rattle.tmw_trace.proofs.Shared.{arith, take_rest}
use Rattle.tmw_trace.proofs.ValueParts.{first_value-some, first_value-none}
use Rattle.tmw_trace.proofs.header_line.first_value.Goals as goal

pub returns-in_default-number_of-clause-none : goal.returns-in_default-number_of-clause-none
returns-in_default-number_of-clause-none c =
    first_value-none c.args.bytes.now c.length_before-length.result
    (rw (take_rest c.args.bytes.now 1) at c.length_before-length.ensures)
    (rw (take_rest c.args.bytes.now 1) at c.in_default-number_of.ensures.none)

pub returns-in-Some-clause-some : goal.returns-in-Some-clause-some
returns-in-Some-clause-some c =
    first_value-some c.args.bytes.now c.in-Some.value c.length_before-length.result (omega arith) (omega arith) (omega arith)
    (rw (take_rest c.args.bytes.now 1) at c.length_before-length.ensures)
    (rw (take_rest c.args.bytes.now 1) at c.in-Some.ensures.some)
