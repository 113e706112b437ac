-- The line feed came after the counts.
use Rattle.tmw_steps.proofs.Shared.{Puts-front, Puts-more, [], counts_text, ◌∷◌}
use Rattle.tmw_steps.proofs.reply_line.put_counts.Goals as goal

pub returns-in_err-put_numbers : goal.returns-in_err-put_numbers
returns-in_err-put_numbers g c =
    Puts-front g.K.Sink.to c.args.sink.now c.put_numbers.new.sink (counts_text c.args.log c.args.taken)
    (10 ∷ []) c.from_residual.result
    c.from_residual.ensures.0 c.in_err-put_numbers.ensures

pub returns : goal.returns
returns g c =
    Puts-more g.K.Sink.to c.args.sink.now c.put_numbers.new.sink (counts_text c.args.log c.args.taken)
    (10 ∷ []) c.put_all.new.sink c.put_all.result
    c.in_ok-put_numbers.ensures c.put_all.ensures
