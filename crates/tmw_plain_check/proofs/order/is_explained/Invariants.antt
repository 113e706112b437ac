-- The references so far are to the list's transactions up to there.
use Rattle.tmw_plain_check.proofs.Shared.{shown, take, txns_of, ◌≡◌}
use Rattle.tmw_plain_check.proofs.order.is_explained.Given as goal

abbrev pub invariant-loop-transaction : goal.invariant-loop-transaction
invariant-loop-transaction l = shown l.waiting.items ≡ txns_of (take l.transaction-index l.list)
