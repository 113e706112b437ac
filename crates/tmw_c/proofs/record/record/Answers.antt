use Rattle.tmw_c.proofs.Shared.{Some, rules, ◌≡◌}
use Rattle.tmw_c.proofs.Refusals.{recording-refused}
use Rattle.tmw_c.proofs.record.record.Goals as goal

pub returns-in-Ok : goal.returns-in-Ok
returns-in-Ok c = record {
  before = c.held_mut.result.now;
  after = c.record_held.new.held;
  held = search rules;
  holds = search rules;
  recorded = search rules;
}

pub returns-in-Err : goal.returns-in-Err
returns-in-Err c =
    let held : c.args.recorder.now.slot.held ≡ Some c.held_mut.result.now = search rules in
    recording-refused c.args.letter c.args.register c.args.value c.args.place.now c.held_mut.result.now c.record_held.new.held
    c.args.recorder.now.slot.held _ held (search rules) c.in-Err.status (search rules)
