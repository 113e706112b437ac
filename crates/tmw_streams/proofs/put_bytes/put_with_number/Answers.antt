-- The number came after all the bytes before it.
use Rattle.tmw_streams.proofs.Shared.{decimal, ◌∙◌}
use Rattle.tmw_streams.proofs.Puts.{Puts-more, Puts-front}
use Rattle.tmw_streams.proofs.put_bytes.put_with_number.Goals as goal

pub returns-in_err-put_all : goal.returns-in_err-put_all
returns-in_err-put_all g c =
    Puts-front g.K.Sink.to c.args.sink.now c.put_all.new.sink c.args.before.now (decimal c.args.number) c.from_residual.result
    c.from_residual.ensures.0 c.in_err-put_all.ensures

pub returns : goal.returns
returns g c =
    let number = c.as_bytes.ensures.value ∙ c.format.ensures.text in
    Puts-more g.K.Sink.to c.args.sink.now c.put_all.new.sink c.args.before.now (decimal c.args.number) c.put_all-2.new.sink
    c.put_all-2.result c.in_ok-put_all.ensures (rw number at c.put_all-2.ensures)
