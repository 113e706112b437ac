use Rattle.tmw_part.proofs.Shared.{AreTaken, AreUnfit, Registers, ap, arith, subst, take, take_all, ◌+◌}
use Rattle.tmw_part.proofs.MoreEvents.{unfit-begun, take-next}
use Rattle.tmw_part.proofs.is_violated.window_of.Goals as goal

pub loop-event-init : goal.loop-event-init
loop-event-init c = record { number = ap (λ (r : Registers). r.number) c.open-window.ensures.registers; stands = c.open-window.ensures.stands; few = omega arith }

pub loop-event-preserved : goal.loop-event-preserved
loop-event-preserved c =
    let place = c.loop-event.event-index in
    let same = take-next c.args.events.now place c.event-item.result c.loop-event-test.true c.event-item.is in
    subst (λ history. AreTaken c.args.registers.number history c.take_event.new.window) same
    (c.take_event.ensures.takes c.if-not-take_event.false c.args.registers.number (take place c.args.events.now) c.loop-event.invariant)

pub returns-then-not-take_event-clause-none : goal.returns-then-not-take_event-clause-none
returns-then-not-take_event-clause-none c =
    let place = c.loop-event.event-index in
    let same = take-next c.args.events.now place c.event-item.result c.loop-event-test.true c.event-item.is in
    unfit-begun c.args.registers.number (place + 1) c.args.events.now
    (subst (AreUnfit c.args.registers.number) same
    (c.take_event.ensures.refuses c.if-not-take_event.true c.args.registers.number (take place c.args.events.now) c.loop-event.invariant))

pub returns-clause-some : goal.returns-clause-some
returns-clause-some c =
    let whole = take_all c.loop-event.event-index c.args.events.now c.loop-event-test.false in
    subst (λ history. AreTaken c.args.registers.number history c.loop-event.window) whole c.loop-event.invariant
