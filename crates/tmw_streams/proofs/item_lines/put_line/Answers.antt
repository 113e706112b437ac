-- The line feed came after the item's text.
use Rattle.tmw_streams.proofs.Shared.{[], ◌∷◌}
use Rattle.tmw_streams.proofs.Puts.{Puts-more, Puts-front}
use Rattle.tmw_streams.proofs.item_lines.put_line.Goals as goal

pub returns-in_err-put_text : goal.returns-in_err-put_text
returns-in_err-put_text g c =
    Puts-front g.K.Sink.to c.args.sink.now c.put_text.new.sink (g.T.Texts.text c.args.item.now) (10 ∷ []) c.from_residual.result
    c.from_residual.ensures.0 c.in_err-put_text.ensures

pub returns : goal.returns
returns g c =
    Puts-more g.K.Sink.to c.args.sink.now c.put_text.new.sink (g.T.Texts.text c.args.item.now) (10 ∷ []) c.put_all.new.sink
    c.put_all.result c.in_ok-put_text.ensures c.put_all.ensures
