-- An entry that is no thread's, and the order that was read whole.
use Rattle.tmw_workloads.proofs.Shared.{IsOrder, arith, number_data, view, ◌<◌}
use Rattle.tmw_workloads.proofs.Lists.{length-read, none_at, read_all}
use Rattle.tmw_workloads.proofs.Rules.{order_each, order_right}
use Rattle.tmw_workloads.proofs.order.read_order.Goals as goal

pub returns-in_default-read_thread-clause-shape : goal.returns-in_default-read_thread-clause-shape
returns-in_default-read_thread-clause-shape c shape =
    none_at number_data (λ thread. thread < c.args.threads) (IsOrder c.args.threads) (view c.args.content.now)
    c.in-Some.values.now c.loop-value.value-index c.value-item.result c.in-Some.ensures.some c.loop-value-test.true
    c.value-item.is c.in_default-read_thread.ensures.none (order_each c.args.threads)

pub returns-clause-right : goal.returns-clause-right
returns-clause-right c =
    let values = c.in-Some.values.now in
    let order = c.loop-value.order.items in
    let read = read_all number_data (λ thread. thread < c.args.threads) values c.loop-value.value-index order
    c.loop-value-test.false c.loop-value.invariant in
    order_right c.args.threads order
    (omega (arith, length-read number_data (λ thread. thread < c.args.threads) values order read, c.in-Some.ensures.most))
    read.right
