-- The event came after the word.
use Rattle.tmw_steps.proofs.Shared.{Puts-front, Puts-more, codes, event_text}
use Rattle.tmw_steps.proofs.reply_line.put_taken.Goals as goal

pub returns-in_err-put_all : goal.returns-in_err-put_all
returns-in_err-put_all g c =
    Puts-front g.K.Sink.to c.args.sink.now c.put_all.new.sink (codes "event ")
    (event_text c.args.event) c.from_residual.result
    c.from_residual.ensures.0 c.in_err-put_all.ensures

pub returns : goal.returns
returns g c =
    Puts-more g.K.Sink.to c.args.sink.now c.put_all.new.sink (codes "event ")
    (event_text c.args.event) c.put_event.new.sink c.put_event.result
    c.in_ok-put_all.ensures c.put_event.ensures
