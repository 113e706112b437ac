-- The monitor was fed one event more.
use Rattle.tmw_monitor.proofs.Shared.{Event, Fits, List, [], ap, rules_for, subst, sym, take, take_more, ◌++◌, ◌+◌, ◌∙◌, ◌∷◌, ◌≡◌}
use Rattle.tmw_monitor.proofs.judge_whole.judge_for.Goals as goal

pub loop-event-preserved : goal.loop-event-preserved
loop-event-preserved c =
    let judged_by = rules_for c.args.criterion c.args.registers c.args.start.now c.args.bounds in
    let before = take c.loop-event.event-index c.args.events.now in
    let next : before ++ c.event-item.result ∷ [] ≡ take (c.loop-event.event-index + 1) c.args.events.now =
    ap (λ e. before ++ e ∷ []) c.event-item.is
    ∙ sym (take_more c.args.events.now c.loop-event.event-index c.event-item.result c.loop-event-test.true) in
    subst (λ (h : List Event). Fits judged_by h c.take.new.self) next (c.take.ensures.feeds judged_by before c.loop-event.invariant)
