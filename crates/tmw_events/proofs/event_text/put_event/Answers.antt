-- The kind came after the thread and its space.
use Rattle.tmw_events.proofs.Shared.{[], digit, kind_text, ◌∷◌}
use Rattle.tmw_streams.proofs.Puts.{Puts-more, Puts-front}
use Rattle.tmw_events.proofs.event_text.put_event.Goals as goal

pub returns-in_err-put_all : goal.returns-in_err-put_all
returns-in_err-put_all g c =
    Puts-front g.K.Sink.to c.args.sink.now c.put_all.new.sink
    (digit c.args.event.now.thread ∷ 32 ∷ [])
    (kind_text c.args.event.now.kind)
    c.from_residual.result c.from_residual.ensures.0 (rw c.digit_of.ensures at c.in_err-put_all.ensures)

pub returns : goal.returns
returns g c =
    Puts-more g.K.Sink.to c.args.sink.now c.put_all.new.sink
    (digit c.args.event.now.thread ∷ 32 ∷ [])
    (kind_text c.args.event.now.kind)
    c.put_kind.new.sink c.put_kind.result (rw c.digit_of.ensures at c.in_ok-put_all.ensures) c.put_kind.ensures
