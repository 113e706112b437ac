-- The second text came after the first and its number.
use Rattle.tmw_report.proofs.Shared.{Puts-more, decimal, ◌++◌}
use Rattle.tmw_report.proofs.fault_line.put_numbered.Goals as goal

pub returns : goal.returns
returns g c =
    Puts-more g.K.Sink.to c.args.sink.now c.put_with_number.new.sink (c.args.before.now ++ decimal c.args.number)
    c.args.after.now c.put_all.new.sink c.put_all.result
    c.in_ok-put_with_number.ensures c.put_all.ensures
