use Rattle.tmw_streams.proofs.Shared.{bounded_bytes, lines_of, PassesOn, take, ◌≡◌}
use Rattle.tmw_streams.proofs.item_lines.put_lines.Given as goal

abbrev pub invariant-loop-item : goal.invariant-loop-item
invariant-loop-item g l =
    PassesOn g.K.Sink.to l.fn.sink (lines_of g.T.Texts.text (take l.item-index l.items)) (bounded_bytes l.held) l.sink
    × (g.K.Sink.to.failures l.sink ≡ g.K.Sink.to.failures l.fn.sink)
