use Rattle.tmw_c.proofs.Shared.{Call, GoesOnBy, HasAnswered, IsTurn, get_or, get_or_default, length, refl, rules}
use Rattle.tmw_c.proofs.Turns.{not-answered}
use Rattle.tmw_c.proofs.turn_calls.answered.Goals as goal

pub returns-in-Ok : goal.returns-in-Ok
returns-in-Ok c =
    let waits : IsTurn 1 c.args.calls.now c.args.turn.now = record { low = search rules; is = search rules } in
    let none : Call = record { register = 0; value = 0; letter = 0 } in
    let answered : HasAnswered (get_or c.args.calls.now c.args.turn.now.place none) c.args.letter c.args.value c.in-Ok.told c.held_mut.result.now
    c.answer_held.new.held
    = search rules
    in
    let goes : GoesOnBy (length c.args.calls.now) c.in-Ok.told.kind c.args.turn.now c.after.result = search rules in
    record {
      waits = waits;
      before = c.held_mut.result.now;
      after = c.answer_held.new.held;
      holds = (search rules, search rules);
      call = get_or c.args.calls.now c.args.turn.now.place none;
      is = λ fallback. get_or_default c.args.calls.now c.args.turn.now.place fallback none waits.low;
      told = c.in-Ok.told;
      place_is = refl;
      answered = answered;
      turns = goes.turns;
      goes_on = goes.goes_on answered.kind answered.fits;
    }

pub returns-in-Err : goal.returns-in-Err
returns-in-Err c =
    let waits : IsTurn 1 c.args.calls.now c.args.turn.now = record { low = search rules; is = search rules } in
    let none : Call = record { register = 0; value = 0; letter = 0 } in
    not-answered c.args.calls.now c.args.letter c.args.value c.args.place.now c.args.recorder.now.slot.held _
    c.args.turn.now waits c.held_mut.result.now c.answer_held.new.held (search rules, search rules)
    (get_or c.args.calls.now c.args.turn.now.place none)
    (λ fallback. get_or_default c.args.calls.now c.args.turn.now.place fallback none waits.low) c.in-Err.status (search rules)
