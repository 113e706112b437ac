use Rattle.std.proofs.Common.{length, ap, List, arith}
use Rattle.std.specs.Vec.Iter.{into_iter_items}
use Rattle.tmw_ring.specs.RingEnds.{WriterIs}
use Rattle.time_ring.proofs.Rest.{of_rest}
use Rattle.time_ring.proofs.run.start_all.Goals as goal

pub loop-writer-preserved : goal.loop-writer-preserved
loop-writer-preserved g c =
    let at = c.loop-writer in
    let steps = c.in-Some.ensures.steps in
    let short = ap (λ (l : List WriterIs). length l) steps.0 in
    let few = at.invariant.1 in
    let was = at.invariant.2 in
    let gone = steps.1 in (
      of_rest c.args.ring.now (into_iter_items at.writer-iterator) (into_iter_items c.next.new.self) c.in-Some.writer at.invariant.0 steps.0,
      omega arith,
      omega arith,
    )
