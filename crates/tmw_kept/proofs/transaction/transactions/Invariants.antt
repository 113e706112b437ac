use Rattle.tmw_kept.proofs.Shared.{drop, transactions, transactions_from, ◌≡◌}
use Rattle.tmw_kept.proofs.transaction.transactions.Given as goal

abbrev pub invariant-loop-place : goal.invariant-loop-place
invariant-loop-place l = transactions_from l.place l.list.items (drop l.place l.events) ≡ transactions l.events
