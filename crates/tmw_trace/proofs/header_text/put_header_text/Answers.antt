-- The numbers came after the first word.
use Rattle.tmw_trace.proofs.Shared.{Puts-front, Puts-more, codes, numbers_text}
use Rattle.tmw_trace.proofs.header_text.put_header_text.Goals as goal

pub returns-in_err-put_all : goal.returns-in_err-put_all
returns-in_err-put_all g c =
    Puts-front g.K.Sink.to c.args.sink.now c.put_all.new.sink (codes "opacity-trace ")
    (numbers_text c.args.header.now) c.from_residual.result
    c.from_residual.ensures.0 c.in_err-put_all.ensures

pub returns : goal.returns
returns g c =
    Puts-more g.K.Sink.to c.args.sink.now c.put_all.new.sink (codes "opacity-trace ")
    (numbers_text c.args.header.now) c.put_numbers.new.sink c.put_numbers.result
    c.in_ok-put_all.ensures c.put_numbers.ensures
