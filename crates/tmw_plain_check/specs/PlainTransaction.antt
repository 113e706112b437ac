-- What the search's values show: of its transactions those of the definitions.
use Rattle.std.specs.Prelude.{◌==◌, ◌&&◌, ℕ, Bool, not, List, map}
use Rattle.std.specs.Borrow.{Bor}
use Rattle.tmw_defs.specs.History.{Txn, is_ended}
use Rattle.tmw_plain_check.specs.declared.plain_transaction.PlainTransaction.{PlainTransaction}

abbrev pub txn_of : PlainTransaction → Txn
txn_of t = record { thread = t.thread.number; first = t.first; last = t.last; text = t.text.items }

abbrev pub txns_of : List PlainTransaction → List Txn
txns_of ts = map txn_of ts

-- the transactions behind references
abbrev pub shown : List (Bor PlainTransaction) → List Txn
shown ts = map (λ t. txn_of t.now) ts

-- the thread's next event belongs to this transaction
abbrev pub joins : ℕ → PlainTransaction → Bool
joins thread t = (t.thread.number == thread) && not (is_ended t.text.items)
