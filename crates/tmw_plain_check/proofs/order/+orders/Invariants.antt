-- None of the transactions that were tried can come first. Each search is for one transaction less.
use Rattle.tmw_plain_check.proofs.Shared.{false, has_order, length, one_below, shown, ◌*◌, ◌+◌, ◌-◌, ◌≡◌}
use Rattle.tmw_plain_check.proofs.order.+orders.Given as goal

abbrev pub decreases-has_order : goal.decreases-has_order
decreases-has_order l = 3 * length l.waiting.now + 2

abbrev pub decreases-may_come : goal.decreases-may_come
decreases-may_come l = 3 * length l.waiting.now + 1

abbrev pub decreases-goes_on : goal.decreases-goes_on
decreases-goes_on l = 3 * length l.rest.now + 3

abbrev pub invariant-has_order-loop-index : goal.invariant-has_order-loop-index
invariant-has_order-loop-index l =
    one_below (has_order (length l.waiting - 1)) l.state (shown l.waiting) l.index ≡ false
