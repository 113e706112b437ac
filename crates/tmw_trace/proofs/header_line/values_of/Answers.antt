use Rattle.tmw_trace.proofs.Shared.{arith, take_rest}
use Rattle.tmw_trace.proofs.ValueParts.{AreRead-more, AreRead-none}
use Rattle.tmw_trace.proofs.header_line.values_of.Goals as goal

pub returns-in_default-clause-none : goal.returns-in_default-clause-none
returns-in_default-clause-none c =
    AreRead-none c.args.registers.number c.loop-index.index c.loop-index.values c.loop-index.rest.now c.args.bytes.now
    c.loop-index.invariant c.loop-index-test.true c.in_default.ensures.none

pub loop-index-preserved : goal.loop-index-preserved
loop-index-preserved c =
    rw (take_rest c.loop-index.rest.now c.in-Some.length)
    (AreRead-more c.args.registers.number c.loop-index.index c.in-Some.value c.in-Some.length c.loop-index.values
    c.loop-index.rest.now c.args.bytes.now c.loop-index.invariant c.loop-index-test.true (omega arith)
    c.in-Some.ensures.some)
