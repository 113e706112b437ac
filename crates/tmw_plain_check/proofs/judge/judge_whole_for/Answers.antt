-- A fault of the first prefix that has one is the answer.
use Rattle.tmw_plain_check.proofs.Shared.{arith, sym, ◌+◌, ◌∙◌}
use Rattle.std.proofs.lemmas.Result.{err_from_is_err_and}
use Rattle.tmw_plain_check.proofs.TrackerSteps.{tracks-next, ill_formed-next}
use Rattle.tmw_plain_check.proofs.Weights.{faultless_below_one, faultless_below_more, judges_ill_formed, judges_weighed, judges_violated}
use Rattle.tmw_plain_check.proofs.judge.judge_whole_for.Goals as goal

pub loop-place-init : goal.loop-place-init
loop-place-init c = grind (arith, faultless_below_one)

pub loop-place-preserved : goal.loop-place-preserved
loop-place-preserved c =
    let tracks =
    tracks-next c.args.registers.number c.args.events.now c.loop-place.place c.index-events-place.result c.loop-place.tracker c.step.new.self c.step.result
    c.loop-place-test.true c.index-events-place.is c.step.ensures.takes (sym c.is_err.ensures.value ∙ c.if-is_err.false) c.loop-place.invariant.tracks
    in grind (arith, faultless_below_more)

pub returns-then-is_err : goal.returns-then-is_err
returns-then-is_err c =
    judges_ill_formed c.args.criterion c.args.registers.number c.args.start.now c.args.events.now (c.loop-place.place + 1) (omega arith) c.loop-place.invariant.fine
    (ill_formed-next c.args.registers.number c.args.events.now c.loop-place.place c.index-events-place.result c.loop-place.tracker c.step.result
    c.loop-place-test.true c.index-events-place.is c.step.ensures.refuses (sym c.is_err.ensures.value ∙ c.if-is_err.true) c.loop-place.invariant.tracks)

pub returns-in_err-has_legal_order : goal.returns-in_err-has_legal_order
returns-in_err-has_legal_order c =
    let tracks =
    tracks-next c.args.registers.number c.args.events.now c.loop-place.place c.index-events-place.result c.loop-place.tracker c.step.new.self c.step.result
    c.loop-place-test.true c.index-events-place.is c.step.ensures.takes (sym c.is_err.ensures.value ∙ c.if-is_err.false) c.loop-place.invariant.tracks
    in grind (arith, err_from_is_err_and, judges_weighed)

pub returns-then-not-branch : goal.returns-then-not-branch
returns-then-not-branch c =
    let tracks =
    tracks-next c.args.registers.number c.args.events.now c.loop-place.place c.index-events-place.result c.loop-place.tracker c.step.new.self c.step.result
    c.loop-place-test.true c.index-events-place.is c.step.ensures.takes (sym c.is_err.ensures.value ∙ c.if-is_err.false) c.loop-place.invariant.tracks
    in
    judges_violated c.args.criterion c.args.registers.number c.args.start.now c.args.events.now (c.loop-place.place + 1) (omega arith) c.loop-place.invariant.fine
    tracks.formed (rw c.if-not-branch.true at c.in_ok-has_legal_order.ensures)

pub returns-in-Opacity : goal.returns-in-Opacity
returns-in-Opacity c = (c.in-Opacity.is, λ k within. c.loop-place.invariant.fine k (omega arith))

pub returns-in-Strict : goal.returns-in-Strict
returns-in-Strict c = (c.in-Strict.is, λ k within. c.loop-place.invariant.fine k (omega arith))
