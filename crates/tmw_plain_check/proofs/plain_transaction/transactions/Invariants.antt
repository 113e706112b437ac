-- The events that are left make of the transactions so far those of the whole history.
use Rattle.tmw_plain_check.proofs.Shared.{drop, transactions, transactions_from, txns_of, ◌≡◌}
use Rattle.tmw_plain_check.proofs.plain_transaction.transactions.Given as goal

abbrev pub invariant-loop-place : goal.invariant-loop-place
invariant-loop-place l = transactions_from l.place (txns_of l.list.items) (drop l.place l.events) ≡ transactions l.events
