-- A reference list without one shows what is left of the transactions.
use Rattle.tmw_plain_check.proofs.Shared.{arith}
use Rattle.tmw_plain_check.proofs.OrderSteps.{shown-remove}
use Rattle.tmw_plain_check.proofs.order.without.Goals as goal

pub returns : goal.returns
returns c = grind (arith, shown-remove)
