-- What a worker calls the memory for: each call is made after its own record and before the record of its answer.
use Rattle.tmw_workers.specs.Shared.{Kind, Made, Refused, Tx, ends}
use Rattle.tmw_workers.specs.Player.{GoesOn}
use Rattle.std.specs.Prelude.{◌≡◌, ◌++◌, ◌⊎◌, IsTrue, List, [], ◌∷◌, MatchBool, Option, Some, None}
use Rattle.tmw_workers.specs.FreshTx.{IsFresh}
use Rattle.tmw_workers.specs.declared.player.Player.{Player}

-- When a writer has claimed these places, a call with this transaction may get this answer and leave the transaction so.
abbrev pub Asking : Type 1
Asking = List Made → Tx → (call answer : Kind) → Tx → Type 0

-- An abort of this transaction may leave it so.
abbrev pub Leaving : Type 1
Leaving = Tx → Tx → Type 0

-- One call: where it and its answer are recorded, and its transaction before it and after it.
pub record Turn : Type 0 where
  pub call : Made
  pub answer : Made
  pub before : Tx
  pub after : Tx

-- The call is recorded, then it is made, then its answer is recorded. The transaction goes on, or a new one follows one that has ended.
pub record TakesTurn (asked : Asking) (turn : Turn) (old made : List Made) (tx : Tx) : Type 0 where
  pub recorded : made ≡ old ++ turn.call ∷ turn.answer ∷ []
  pub asks : asked (old ++ turn.call ∷ []) turn.before turn.call.event.kind turn.answer.event.kind turn.after
  pub next : MatchBool (ends turn.answer.event.kind) (IsFresh tx) (tx ≡ turn.after)

-- From these places on a thread has recorded just its calls and their answers, by turns, which are listed with the last one first. Its
-- first transaction is new to the memory.
abbrev pub TakesTurns : Asking → List Made → List Turn → List Made → Tx → Type 0
TakesTurns asked start [] made tx = (made ≡ start) × IsFresh tx
TakesTurns asked start (turn ∷ earlier) made tx =
    (old : List Made) × TakesTurns asked start earlier old turn.before × TakesTurn asked turn old made tx

-- Behind these turns no transaction is open: none was begun, or the last answer has ended one.
abbrev pub HasNoneOpen : List Turn → Type 0
HasNoneOpen [] = Unit {0}
HasNoneOpen (turn ∷ earlier) = IsTrue (ends turn.answer.event.kind)

-- The transaction was open no more, or it is aborted.
abbrev pub Leaves : Leaving → (Over : Type 0) → Tx → Type 0
Leaves left Over tx = Over ⊎ ((ended : Tx) × left tx ended)

-- The player takes one turn with its transaction.
abbrev pub TakesOneTurn : Asking → (old made : List Made) → (before after : Player) → Type 0
TakesOneTurn asked old made before after =
    (turn : Turn) × (turn.before ≡ before.tx) × TakesTurn asked turn old made after.tx × GoesOn turn.answer.event.kind before after

-- Behind its last turn the thread was stopped, at the record of a call or of an answer. It has asked for the abort of a transaction that
-- is open then.
abbrev pub StopsInTurn : Asking → Leaving → (NoneOpen : Type 0) → (old made : List Made) → Tx → Type 0
StopsInTurn asked left NoneOpen old made tx =
    ((made ≡ old) × Leaves left NoneOpen tx)
    ⊎ ((call : Made) × (answer : Kind) × (after : Tx) × (made ≡ old ++ call ∷ []) × asked made tx call.event.kind answer after
    × Leaves left (IsTrue (ends answer)) after)

abbrev pub EndsTurns : Asking → Leaving → List Turn → (old made : List Made) → Tx → Option Refused → Type 0
EndsTurns asked left turns old made tx None = made ≡ old
EndsTurns asked left turns old made tx (Some refused) = StopsInTurn asked left (HasNoneOpen turns) old made tx

-- From these places on each answer that the thread has recorded was returned by a call that it made after the call's record. Where it is
-- stopped it has asked for the abort of a transaction that its turns leave open. (Calls that are not recorded are not spoken of.)
pub record HasCalledInTurn (asked : Asking) (left : Leaving) (start : List Made) (stop : Option Refused) (made : List Made)
    : Type 0 where
  pub turns : List Turn
  pub tx : Tx
  pub old : List Made
  pub taken : TakesTurns asked start turns old tx
  pub over : EndsTurns asked left turns old made tx stop
