-- How a call is answered that carries a transaction out, an event at a time.
use Rattle.tmw_c.specs.Shared.{A, Follows, HasRecorded, HeldRecorder, IsPlaced, Kind, writer_of}
use Rattle.std.specs.Prelude.{◌≡◌, ◌⊎◌, ◌<◌, ◌+◌, ◌++◌, ℕ, Bool, true, false, List, [], ◌∷◌, Option, Some, None, length, get_or}
use Rattle.tmw_c.specs.Kinds.{AsksFor, IsNoLetter, IsNoRegister}
use Rattle.tmw_c.specs.Record.{IsSameEnd, WasFull, WasSpent}
use Rattle.tmw_c.specs.declared.call_status.CallStatus.{CallStatus}
use Rattle.tmw_c.specs.declared.call_status.CallStatus.TheVariants.{Done, NoHandle, Full, Spent, BadKind, BadRegister, OutOfTurn, NotCall, Misfit}
use Rattle.tmw_c.specs.declared.c_turn.Call.{Call}
use Rattle.tmw_c.specs.declared.c_turn.CTurn.{CTurn}
use Rattle.tmw_c.specs.declared.turn_calls.Recorded.{Recorded}
use Rattle.tmw_defs.specs.History.{answers}
use Rattle.tmw_runs.specs.Runs.{is_abort}

-- The event brings the transaction of this call from turn to turn: behind whatever brings it to the old turn, it brings it to the new.
abbrev pub GoesOn : (count : ℕ) → (call recorded : Kind) → (old new : CTurn) → Type 0
GoesOn count call recorded old new =
    (calls kinds : List Kind) → length calls ≡ count → get_or calls old.place A ≡ call
    → Follows calls old.place old.phase kinds → Follows calls new.place new.phase (kinds ++ recorded ∷ [])

-- The answer to the call at this place ends a transaction of so many calls: it is an abort event, or that was the last call.
abbrev pub EndsTransaction : (count place : ℕ) → Kind → Type 0
EndsTransaction count place answer = (is_abort answer ≡ true) ⊎ (place + 1 ≡ count)

-- The turn after an answer: the transaction is over, or else its next call is due.
abbrev pub TurnsTo : (count : ℕ) → (answer : Kind) → (old new : CTurn) → Type 0
TurnsTo count answer old new =
    (EndsTransaction count old.place answer × (new ≡ record { place = old.place; phase = 2 }))
    ⊎ ((EndsTransaction count old.place answer → ⊥) × (new ≡ record { place = old.place + 1; phase = 0 }))

-- The transaction goes on so after this answer, whichever call it fits.
pub record GoesOnBy (count : ℕ) (answer : Kind) (old new : CTurn) : Type 0 where
  pub turns : TurnsTo count answer old new
  pub goes_on : (call : Kind) → answers call answer ≡ true → GoesOn count call answer old new

-- This call asks for this kind.
abbrev pub Asks : (registers : ℕ) → Call → Kind → Type 0
Asks registers call kind = AsksFor registers call.letter call.register call.value kind

-- just this kind was recorded, at this place of the one log
pub record HasRecordedKind (kind : Kind) (place : ℕ) (old new : HeldRecorder) : Type 0 where
  pub same : IsSameEnd old new
  pub recorded : HasRecorded kind place (writer_of old.recorder) (writer_of new.recorder)

-- The call was recorded, as an event of a kind that may stand at its turn among so many calls.
pub record HasCalled (count : ℕ) (turn : CTurn) (call : Call) (told : Recorded) (old new : HeldRecorder) : Type 0 where
  pub asks : Asks old.registers.number call told.kind
  pub placed : IsPlaced count turn.place told.kind
  pub recorded : HasRecordedKind told.kind told.place old new

-- The call asks for a kind that may stand at its turn.
abbrev pub MayBeCalled : (count : ℕ) → CTurn → Call → HeldRecorder → Type 0
MayBeCalled count turn call old = (kind : Kind) × Asks old.registers.number call kind × IsPlaced count turn.place kind

-- The call asks for a kind that may not stand at its turn.
abbrev pub IsMisplaced : (count : ℕ) → CTurn → Call → HeldRecorder → Type 0
IsMisplaced count turn call old = (kind : Kind) × Asks old.registers.number call kind × (IsPlaced count turn.place kind → ⊥)

-- why a recorder has not recorded the call, and what it is then
abbrev pub HasNotCalled : (count : ℕ) → CTurn → Call → HeldRecorder → HeldRecorder → CallStatus → Type 0
HasNotCalled count turn call old new NotCall = IsMisplaced count turn call old × (new ≡ old)
HasNotCalled count turn call old new BadKind = IsNoLetter call.letter × (new ≡ old)
HasNotCalled count turn call old new BadRegister = IsNoRegister old.registers.number call.letter call.register × (new ≡ old)
HasNotCalled count turn call old new Full = WasFull call.letter call.register call.value old new × MayBeCalled count turn call old
HasNotCalled count turn call old new Spent = WasSpent call.letter call.register call.value old new × MayBeCalled count turn call old
HasNotCalled count turn call old new _ = ⊥

-- The answer to the call was recorded, at its place of the one log, and it fits the call.
pub record HasAnswered (call : Call) (letter value : ℕ) (told : Recorded) (old new : HeldRecorder) : Type 0 where
  pub kind : Kind
  pub asks : Asks old.registers.number call kind
  pub answered : AsksFor old.registers.number letter 0 value told.kind
  pub fits : answers kind told.kind ≡ true
  pub recorded : HasRecordedKind told.kind told.place old new

-- The call and its answer ask for kinds of which the second fits the first, or does not.
pub record Answers (fits : Bool) (call : Call) (letter value : ℕ) (old : HeldRecorder) : Type 0 where
  pub kind : Kind
  pub answer : Kind
  pub asks : Asks old.registers.number call kind
  pub answered : AsksFor old.registers.number letter 0 value answer
  pub does : answers kind answer ≡ fits

-- why a recorder has not recorded the answer, and what it is then
abbrev pub HasNotAnswered : Call → (letter value : ℕ) → HeldRecorder → HeldRecorder → CallStatus → Type 0
HasNotAnswered call letter value old new Misfit = Answers false call letter value old × (new ≡ old)
HasNotAnswered call letter value old new BadKind =
    (IsNoLetter call.letter ⊎ (IsNoLetter letter × (kind : Kind) × Asks old.registers.number call kind)) × (new ≡ old)
HasNotAnswered call letter value old new BadRegister = IsNoRegister old.registers.number call.letter call.register × (new ≡ old)
HasNotAnswered call letter value old new Full = WasFull letter 0 value old new × Answers true call letter value old
HasNotAnswered call letter value old new Spent = WasSpent letter 0 value old new × Answers true call letter value old
HasNotAnswered call letter value old new _ = ⊥

-- The handle held one recorder and holds the other then.
abbrev pub Holds : (old new : Option HeldRecorder) → (before after : HeldRecorder) → Type 0
Holds old new before after = (old ≡ Some before) × (new ≡ Some after)

-- The transaction is in this phase, at the place of one of its calls: the call is due in phase 0, and waits for its answer in phase 1.
pub record IsTurn (phase : ℕ) (calls : List Call) (turn : CTurn) : Type 0 where
  pub low : turn.place < length calls
  pub is : turn.phase ≡ phase

-- This call stands at the turn's place.
abbrev pub IsAt : List Call → CTurn → Call → Type 0
IsAt calls turn call = (fallback : Call) → get_or calls turn.place fallback ≡ call

-- Neither the handle's recorder nor the turn nor the place that the caller is told has changed.
abbrev pub IsUnchanged : (old new : Option HeldRecorder) → (turn next : CTurn) → (old_place new_place : ℕ) → Type 0
IsUnchanged old new turn next old_place new_place = (new ≡ old) × (next ≡ turn) × (new_place ≡ old_place)

-- The recorder that a handle holds has recorded nothing for the call at this turn, for this reason.
pub record WasRefusedAt (phase : ℕ) (calls : List Call) (old new : Option HeldRecorder) (turn : CTurn)
    (Refused : Call → HeldRecorder → HeldRecorder → Type 0) : Type 0 where
  pub turned : IsTurn phase calls turn
  pub before : HeldRecorder
  pub after : HeldRecorder
  pub holds : Holds old new before after
  pub call : Call
  pub is : IsAt calls turn call
  pub refused : Refused call before after

-- the recorder that a handle holds has recorded the transaction's next call
pub record HasCalledHeld (calls : List Call) (place : ℕ) (old new : Option HeldRecorder) (turn next : CTurn) : Type 0 where
  pub due : IsTurn 0 calls turn
  pub before : HeldRecorder
  pub after : HeldRecorder
  pub holds : Holds old new before after
  pub call : Call
  pub is : IsAt calls turn call
  pub told : Recorded
  pub place_is : place ≡ told.place
  pub called : HasCalled (length calls) turn call told before after
  pub waits : next ≡ record { place = turn.place; phase = 1 }
  pub goes_on : GoesOn (length calls) told.kind told.kind turn next

-- Each status of tmwatch_record_next_call, with what the handle holds then, the turn, and what place the caller is told.
abbrev pub IsCalling : List Call → (old new : Option HeldRecorder) → (turn next : CTurn) → (old_place new_place : ℕ) → CallStatus → Type 0
IsCalling calls old new turn next old_place new_place Done = HasCalledHeld calls new_place old new turn next
IsCalling calls old new turn next old_place new_place NoHandle =
    IsTurn 0 calls turn × (old ≡ None) × IsUnchanged old new turn next old_place new_place
IsCalling calls old new turn next old_place new_place OutOfTurn =
    (IsTurn 0 calls turn → ⊥) × IsUnchanged old new turn next old_place new_place
IsCalling calls old new turn next old_place new_place status =
    WasRefusedAt 0 calls old new turn (λ call before after. HasNotCalled (length calls) turn call before after status)
    × (next ≡ turn) × (new_place ≡ old_place)

-- the recorder that a handle holds has recorded the answer to the transaction's call
pub record HasAnsweredHeld (calls : List Call) (letter value place : ℕ) (old new : Option HeldRecorder) (turn next : CTurn) : Type 0 where
  pub waits : IsTurn 1 calls turn
  pub before : HeldRecorder
  pub after : HeldRecorder
  pub holds : Holds old new before after
  pub call : Call
  pub is : IsAt calls turn call
  pub told : Recorded
  pub place_is : place ≡ told.place
  pub answered : HasAnswered call letter value told before after
  pub turns : TurnsTo (length calls) told.kind turn next
  pub goes_on : GoesOn (length calls) answered.kind told.kind turn next

-- Each status of tmwatch_record_answer, with what the handle holds then, the turn, and what place the caller is told.
abbrev pub IsAnswering : List Call → (letter value : ℕ) → (old new : Option HeldRecorder) → (turn next : CTurn)
    → (old_place new_place : ℕ) → CallStatus → Type 0
IsAnswering calls letter value old new turn next old_place new_place Done =
    HasAnsweredHeld calls letter value new_place old new turn next
IsAnswering calls letter value old new turn next old_place new_place NoHandle =
    IsTurn 1 calls turn × (old ≡ None) × IsUnchanged old new turn next old_place new_place
IsAnswering calls letter value old new turn next old_place new_place OutOfTurn =
    (IsTurn 1 calls turn → ⊥) × IsUnchanged old new turn next old_place new_place
IsAnswering calls letter value old new turn next old_place new_place status =
    WasRefusedAt 1 calls old new turn (λ call before after. HasNotAnswered call letter value before after status)
    × (next ≡ turn) × (new_place ≡ old_place)
