-- What a call leaves of its transaction.
use Rattle.std.specs.Prelude.{◌≡◌, true, false, []}
use Rattle.tmw_tm.specs.Answers.{Answer}
use Rattle.tmw_tm.specs.Answers.Answer.{Value, Done, Abort}
use Rattle.tmw_tm.specs.declared.tx.Tx.{Tx}

-- The transaction has begun, and has written nothing.
abbrev pub IsBegun : Tx → Type 0
IsBegun tx = (tx.begun ≡ true) × (tx.writes.items ≡ [])

-- The transaction is over, and none of its writes is left.
abbrev pub IsEnded : Tx → Type 0
IsEnded tx = (tx.begun ≡ false) × (tx.writes.items ≡ [])

-- An abort has ended the transaction, and after any other answer it goes on.
abbrev pub GoesOnOrEnds : Answer → Tx → Type 0
GoesOnOrEnds (Value value) tx = tx.begun ≡ true
GoesOnOrEnds Done tx = tx.begun ≡ true
GoesOnOrEnds Abort tx = IsEnded tx
