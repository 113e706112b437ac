-- The second text and number came after the first.
use Rattle.tmw_steps.proofs.Shared.{Puts-more, ◌++◌}
use Rattle.std.specs.Fmt.{decimal}
use Rattle.tmw_steps.proofs.reply_line.put_numbers.Goals as goal

pub returns : goal.returns
returns g c =
    Puts-more g.K.Sink.to c.args.sink.now c.put_with_number.new.sink (c.args.before.now ++ decimal c.args.first)
    (c.args.between.now ++ decimal c.args.second) c.put_with_number-2.new.sink c.put_with_number-2.result
    c.in_ok-put_with_number.ensures c.put_with_number-2.ensures
