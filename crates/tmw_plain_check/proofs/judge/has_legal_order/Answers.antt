-- The search decides.
use Rattle.tmw_plain_check.proofs.Shared.{Criterion, Ok, Weighs, ap, arith, length, subst, sym, ◌≤◌}
use Rattle.tmw_plain_check.proofs.Weights.{weighs_explained, weighs_completed}
use Rattle.tmw_plain_check.proofs.judge.has_legal_order.Goals as goal

pub returns-in-Opacity : goal.returns-in-Opacity
returns-in-Opacity c =
    let few : length c.in_ok-list.list.items ≤ 8 = omega (arith, ap length c.deref.ensures.value) in
    let found = rw c.deref.ensures.value at c.in_ok-is_explained-in-Opacity.ensures in
    subst (λ (k : Criterion). Weighs k c.args.start.now c.args.events.now (Ok c.in_ok-is_explained-in-Opacity.field-0)) (sym c.in-Opacity.is)
    (weighs_explained c.args.start.now c.args.events.now c.in_ok-list.list.items c.in_ok-is_explained-in-Opacity.field-0
    c.in_ok-list.ensures few found)

pub returns : goal.returns
returns c =
    let few : length c.in_ok-list.list.items ≤ 8 = omega (arith, ap length c.deref-in-Strict.ensures.value) in
    let found = rw c.deref-in-Strict.ensures.value at c.in_ok-has_completion-in-Strict.ensures in
    subst (λ (k : Criterion). Weighs k c.args.start.now c.args.events.now (Ok c.in_ok-has_completion-in-Strict.field-0)) (sym c.in-Strict.is)
    (weighs_completed c.args.start.now c.args.events.now c.in_ok-list.list.items c.in_ok-has_completion-in-Strict.field-0
    c.in_ok-list.ensures few found)
