use Rattle.tmw_report.proofs.Shared.{Takes, escaped, take, ◌≡◌}
use Rattle.tmw_report.proofs.quote.put_escaped.Given as goal

abbrev pub invariant-loop-byte : goal.invariant-loop-byte
invariant-loop-byte g l =
    Takes g.K.Sink.to l.fn.sink (escaped (take l.byte-index l.bytes)) l.sink
    × (g.K.Sink.to.failures l.sink ≡ g.K.Sink.to.failures l.fn.sink)
