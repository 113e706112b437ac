use Rattle.tmw_trace.proofs.Spoken.{are_spoken-fitting}
use Rattle.tmw_trace.proofs.whole_trace.read_trace.Goals as goal

pub invariant_of-result : goal.invariant_of-result
invariant_of-result g c = record {
  spoken = are_spoken-fitting c.in-Ok.header.version c.in-Ok.events.items c.in-Ok.ensures.lines.fit.items_fit;
}
