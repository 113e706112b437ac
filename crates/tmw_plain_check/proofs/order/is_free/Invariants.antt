-- None of those seen precedes the transaction, so the rest decides.
use Rattle.tmw_plain_check.proofs.Shared.{drop, is_free, shown, txn_of, ◌≡◌}
use Rattle.tmw_plain_check.proofs.order.is_free.Given as goal

abbrev pub invariant-loop-other : goal.invariant-loop-other
invariant-loop-other l =
    is_free (txn_of l.transaction) (shown (drop l.other-index l.others)) ≡ is_free (txn_of l.transaction) (shown l.others)
