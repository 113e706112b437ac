-- A string that is no kind's text, and calls that are not those of a transaction.
use Rattle.tmw_workloads.proofs.Shared.{FitsKind, IsTransaction, ap, call_data, is_transaction, sym, view, ◌∙◌}
use Rattle.tmw_workloads.proofs.Lists.{list_from_read, none_at, read_all}
use Rattle.tmw_workloads.proofs.Transactions.{none_of_calls}
use Rattle.tmw_workloads.proofs.transaction.read_transaction.Goals as goal

pub returns-in_default-read_kind-clause-shape : goal.returns-in_default-read_kind-clause-shape
returns-in_default-read_kind-clause-shape c shape =
    none_at call_data FitsKind (IsTransaction c.args.registers.number) (view c.args.content.now) c.in-Some.values.now
    c.loop-value.value-index c.value-item.result c.in-Some.ensures.some c.loop-value-test.true c.value-item.is
    c.in_default-read_kind.ensures.none (λ calls right. right.1)

pub returns-then-not-is_transaction-clause-shape : goal.returns-then-not-is_transaction-clause-shape
returns-then-not-is_transaction-clause-shape c shape =
    let registers = c.args.registers.number in
    let values = c.in-Some.values.now in
    let calls = c.loop-value.calls.items in
    let read = read_all call_data FitsKind values c.loop-value.value-index calls c.loop-value-test.false c.loop-value.invariant in
    let not_right = sym (ap (is_transaction registers) c.deref.ensures.value) ∙ sym c.is_transaction.ensures ∙ c.if-not-is_transaction.true in
    none_of_calls registers (view c.args.content.now) calls
    (list_from_read call_data FitsKind (view c.args.content.now) values calls c.in-Some.ensures.some read) read.right not_right
