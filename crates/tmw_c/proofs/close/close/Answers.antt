use Rattle.tmw_c.proofs.Shared.{IsUnended, rules}
use Rattle.tmw_c.proofs.Refusals.{closing-unended}
use Rattle.tmw_c.proofs.close.close.Goals as goal

pub returns-in-Ok : goal.returns-in-Ok
returns-in-Ok c = record {
  before = c.in-Some.place.value;
  held = search rules;
  gone = search rules;
  report = c.in-Ok.report;
  closed = search rules;
  is_told = c.of.ensures;
}

pub returns-in-Err : goal.returns-in-Err
returns-in-Err c =
    let unended : IsUnended c.in-Some.place.value c.in-Err.left c.args.recorders.now c.end.new.handles c.in-Err.status = search rules in
    closing-unended c.in-Some.place.value c.in-Err.left c.args.watch.now.slot.held _ c.args.recorders.now c.end.new.handles c.args.told.now
    (search rules) (search rules) c.in-Err.status unended
