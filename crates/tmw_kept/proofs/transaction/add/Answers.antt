-- The event joins the transaction that was found, or begins one where none was.
use Rattle.tmw_kept.proofs.Shared.{ap, longer, slice_set, ◌∙◌}
use Rattle.tmw_kept.proofs.AddEvent.{add_event-position, add_event-nowhere}
use Rattle.tmw_kept.proofs.transaction.add.Goals as goal

pub returns-in_ok-push-in-Some : goal.returns-in_ok-push-in-Some
returns-in_ok-push-in-Some c =
    let ts = c.args.list.now.items in
    let found = rw c.deref.ensures.value at c.in-Some.ensures in
    rw c.in_ok-push-in-Some.ensures.items
    (ap (λ t. slice_set ts c.in-Some.index (longer c.args.place c.args.event.now t)) c.open.view_is
    ∙ add_event-position c.args.place c.args.event.now ts c.in-Some.index c.index_mut-open.result.now found c.index_mut-open.ensures.value)

pub returns-in_ok-push-in-None-2 : goal.returns-in_ok-push-in-None-2
returns-in_ok-push-in-None-2 c =
    let nowhere = rw c.deref.ensures.value at c.in-None.ensures in
    rw (c.in_ok-push-in-None-2.ensures.items, c.in_ok-push-in-None.ensures.items, c.new-text.ensures.items)
    (add_event-nowhere c.args.place c.args.event.now c.args.list.now.items nowhere)
