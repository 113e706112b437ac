-- The calls are the others and then the last.
use Rattle.tmw_workloads.proofs.Shared.{arith}
use Rattle.tmw_workloads.proofs.Transactions.{is_transaction-push}
use Rattle.tmw_workloads.proofs.calls.is_transaction.Goals as goal

pub returns-then-are_operations : goal.returns-then-are_operations
returns-then-are_operations c = grind (arith, is_transaction-push, c.in-Some.ensures.cases.0)

pub returns-else-are_operations : goal.returns-else-are_operations
returns-else-are_operations c =
    grind (arith, is_transaction-push, c.in-Some.ensures.cases.0, c.if-are_operations.false, c.are_operations.ensures)
