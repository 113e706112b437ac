use Rattle.tmw_trace.proofs.Shared.{Takes, take, values_text, ◌≡◌}
use Rattle.tmw_trace.proofs.header_text.put_values.Given as goal

abbrev pub invariant-loop-value : goal.invariant-loop-value
invariant-loop-value g l =
    Takes g.K.Sink.to l.fn.sink (values_text (take l.value-index l.values)) l.sink
    × (g.K.Sink.to.failures l.sink ≡ g.K.Sink.to.failures l.fn.sink)
