-- The line feed came after the header.
use Rattle.tmw_trace.proofs.Shared.{Puts-front, Puts-more, [], header_text, ◌∷◌}
use Rattle.tmw_trace.proofs.header_text.put_header.Goals as goal

pub returns-in_err-put_header_text : goal.returns-in_err-put_header_text
returns-in_err-put_header_text g c =
    Puts-front g.K.Sink.to c.args.sink.now c.put_header_text.new.sink (header_text c.args.header.now)
    (10 ∷ []) c.from_residual.result
    c.from_residual.ensures.0 c.in_err-put_header_text.ensures

pub returns : goal.returns
returns g c =
    Puts-more g.K.Sink.to c.args.sink.now c.put_header_text.new.sink (header_text c.args.header.now)
    (10 ∷ []) c.put_all.new.sink c.put_all.result
    c.in_ok-put_header_text.ensures c.put_all.ensures
