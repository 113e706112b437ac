use Rattle.tmw_c.proofs.Shared.{CTurn, false, inl, inr, is_abort, refl, rules, true, ◌+◌, ◌≡◌}
use Rattle.tmw_c.proofs.Turns.{after-abort, after-answer, after-last, not-ended}
use Rattle.tmw_c.proofs.turn_calls.after.Goals as goal

pub returns-then-is_abort : goal.returns-then-is_abort
returns-then-is_abort c =
    let aborts : is_abort c.args.answer ≡ true = search rules in
    let over : CTurn = record { place = c.args.turn.place; phase = 2 } in
    record {
      turns = inl (inl aborts, refl);
      goes_on = after-abort c.args.count c.args.answer c.args.turn over c.requires.waits c.requires.low aborts refl;
    }

pub returns-then-place-count : goal.returns-then-place-count
returns-then-place-count c =
    let goes : is_abort c.args.answer ≡ false = search rules in
    let last : c.args.turn.place + 1 ≡ c.args.count = search rules in
    let over : CTurn = record { place = c.args.turn.place; phase = 2 } in
    record {
      turns = inl (inr last, refl);
      goes_on = after-last c.args.count c.args.answer c.args.turn over c.requires.waits c.requires.low goes last refl;
    }

pub returns : goal.returns
returns c =
    let goes : is_abort c.args.answer ≡ false = search rules in
    let due : CTurn = record { place = c.args.turn.place + 1; phase = 0 } in
    let further : c.args.turn.place + 1 ≡ c.args.count → ⊥ = search rules in
    record {
      turns = inr (not-ended c.args.count c.args.turn.place c.args.answer goes further, refl);
      goes_on = after-answer c.args.count c.args.answer c.args.turn due c.requires.waits c.requires.low goes refl refl;
    }
