-- The event joins the transaction that was found, or begins one where none was.
use Rattle.tmw_plain_check.proofs.Shared.{arith}
use Rattle.tmw_plain_check.proofs.Transactions.{add_event-position, add_event-nowhere}
use Rattle.tmw_plain_check.proofs.plain_transaction.add.Goals as goal

pub returns-in_ok-push-in-Some : goal.returns-in_ok-push-in-Some
returns-in_ok-push-in-Some c = grind (arith, add_event-position)

pub returns-in_ok-push-in-None-2 : goal.returns-in_ok-push-in-None-2
returns-in_ok-push-in-None-2 c = grind (arith, add_event-nowhere)
