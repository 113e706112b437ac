-- The steps of the search, by the lemmas on them.
use Rattle.tmw_plain_check.proofs.Shared.{Some, arith, length, length-map, refl, shown, slice_get, slice_get_read, sym, txn_of, ◌≡◌}
use Rattle.tmw_plain_check.proofs.OrderSteps.{shown_at, explained_found, explained_none, may_come-whole}
use Rattle.tmw_plain_check.proofs.order.+orders.Goals as goal

pub has_order-returns-then-branch : goal.has_order-returns-then-branch
has_order-returns-then-branch t c =
    grind (arith, length, shown, length-map, txn_of, explained_found)

pub has_order-returns : goal.has_order-returns
has_order-returns t c =
    grind (arith, length, shown, length-map, txn_of, explained_none)

pub may_come-returns : goal.may_come-returns
may_come-returns t c =
    let size : length c.args.waiting.now ≡ length (shown c.args.waiting.now) = sym (length-map c.args.waiting.now (λ t. txn_of t.now)) in
    let next = c.index-waiting-index.result in
    let stands : slice_get c.args.waiting.now c.args.index ≡ Some next
    = slice_get_read c.args.waiting.now (length c.args.waiting.now) c.args.index next refl c.requires c.index-waiting-index.is
    in
    let free = rw c.deref-2.ensures.value at c.if-not-is_free.ensures in
    let replayed = rw c.deref.ensures.value at c.in-Some.ensures in
    let goes = rw (c.status_of.ensures, c.deref-3.ensures.value, c.deref-4.ensures.value) at c.goes_on.ensures in
    may_come-whole c.args.state.now c.in-Some.after (shown c.args.waiting.now) (shown c.in_ok-rest.rest.items) (length c.args.waiting.now) c.args.index
    (txn_of next.now) c.goes_on.result size (shown_at c.args.waiting.now c.args.index next stands) c.in_ok-rest.ensures
    free replayed.0 replayed.1 goes
