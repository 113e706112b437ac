use Rattle.tmw_streams.proofs.Shared.{length, take, Takes, ◌-◌, ◌≡◌, ◌≤◌}
use Rattle.tmw_streams.proofs.put_bytes.put_all.Given as goal

abbrev pub invariant-loop-at : goal.invariant-loop-at
invariant-loop-at g l =
    (l.at ≤ length l.bytes)
    × Takes g.K.Sink.to l.fn.sink (take l.at l.bytes) l.sink
    × (g.K.Sink.to.failures l.sink ≡ g.K.Sink.to.failures l.fn.sink)

abbrev pub decreases-loop-at : goal.decreases-loop-at
decreases-loop-at g l = length l.bytes - l.at
