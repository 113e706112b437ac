use Rattle.tmw_c.proofs.Shared.{CTurn, Call, IsTurn, get_or, get_or_default, length, refl, rules}
use Rattle.tmw_c.proofs.Turns.{after-call, not-called}
use Rattle.tmw_c.proofs.turn_calls.next.Goals as goal

pub returns-in-Ok : goal.returns-in-Ok
returns-in-Ok c =
    let due : IsTurn 0 c.args.calls.now c.args.turn.now = record { low = search rules; is = search rules } in
    let none : Call = record { register = 0; value = 0; letter = 0 } in
    let asked : CTurn = record { place = c.args.turn.now.place; phase = 1 } in
    record {
      due = due;
      before = c.held_mut.result.now;
      after = c.call_held.new.held;
      holds = (search rules, search rules);
      call = get_or c.args.calls.now c.args.turn.now.place none;
      is = λ fallback. get_or_default c.args.calls.now c.args.turn.now.place fallback none due.low;
      told = c.in-Ok.told;
      place_is = refl;
      called = search rules;
      waits = refl;
      goes_on = after-call (length c.args.calls.now) c.in-Ok.told.kind c.args.turn.now asked due.low due.is refl refl;
    }

pub returns-in-Err : goal.returns-in-Err
returns-in-Err c =
    let due : IsTurn 0 c.args.calls.now c.args.turn.now = record { low = search rules; is = search rules } in
    let none : Call = record { register = 0; value = 0; letter = 0 } in
    not-called c.args.calls.now c.args.recorder.now.slot.held _ c.args.turn.now c.args.place.now due c.held_mut.result.now
    c.call_held.new.held (search rules, search rules) (get_or c.args.calls.now c.args.turn.now.place none)
    (λ fallback. get_or_default c.args.calls.now c.args.turn.now.place fallback none due.low) c.in-Err.status (search rules)
