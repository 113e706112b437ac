-- What a turn tells of a thread: the place of its open transaction and its pending call.
use Rattle.tmw_cuts.specs.Shared.{Ix, Kind, Op, Txn, answers, asks, is_ended, operation}
use Rattle.std.specs.Prelude.{Bool, Err, List, None, Ok, Option, Result, Some, [], if◌then◌else◌, not, option_map, slice_index_or, slice_set, suc, zero, ℕ, ◌&&◌, ◌==◌, ◌∷◌, ◌≡◌}
use Rattle.tmw_events.specs.declared.event.Kind.TheVariants.{A, R, W, T, X, N}
use Rattle.tmw_events.specs.EventOfWords.{ix_of}
use Rattle.tmw_wellformed.specs.declared.malformed.Malformed.{Malformed}
use Rattle.tmw_wellformed.specs.declared.malformed.Malformed.TheVariants.{Busy, Idle, Mismatch}
use Rattle.tmw_wellformed.specs.PendingCalls.{call_of}
use Rattle.tmw_cuts.specs.declared.turn.Turn.{Turn}
use Rattle.tmw_cuts.specs.declared.turn.Stage.{Stage}
use Rattle.tmw_cuts.specs.declared.turn.Stage.TheVariants.{Between, Within, Reading, Adding, Writing, Committing, Aborting}
use Rattle.tmw_cuts.specs.declared.turn.Move.{Move}
use Rattle.tmw_cuts.specs.declared.turn.Move.TheVariants.{Begin, Ask, Answer, End}

-- The place of a thread's open transaction, and the call of it that has no answer.
abbrev pub Found : Type 0
Found = Option (ℕ × Option Kind)

-- The same of a thread at this stage, where this is the place, the register and the value of its turn.
abbrev pub kept_at : Stage → Ix → Ix → ℕ → Option (Ix × Option Kind)
kept_at Between p r v = None
kept_at Within p r v = Some (p, None)
kept_at Reading p r v = Some (p, Some (R r))
kept_at Adding p r v = Some (p, Some (N r v))
kept_at Writing p r v = Some (p, Some (W r v))
kept_at Committing p r v = Some (p, Some T)
kept_at Aborting p r v = Some (p, Some X)

-- The same as a turn has it, whose place is below eight.
abbrev pub kept_in : Turn → Option (Ix × Option Kind)
kept_in turn = kept_at turn.stage turn.place turn.register turn.value

-- A thread that has no open transaction.
abbrev pub between : Turn
between = record { stage = Between; place = ix_of 0; register = ix_of 0; value = 0 }

-- The same of the thread, whose turn is among these.
abbrev pub kept_of : List Turn → ℕ → Option (Ix × Option Kind)
kept_of turns thread = kept_in (slice_index_or turns thread between)

-- The turn of the thread alone is another, which has this.
abbrev pub Turns : List Turn → List Turn → Ix → Option (Ix × Option Kind) → Type 0
Turns old new thread kept = (next : Turn) × (new ≡ slice_set old thread.number next) × (kept_in next ≡ kept)

-- The same, by the place's number.
abbrev pub numbered : Ix × Option Kind → ℕ × Option Kind
numbered k = (k.0.number, k.1)

abbrev pub found_in : Turn → Found
found_in turn = option_map numbered (kept_in turn)

-- The same, with one transaction more before it.
abbrev pub further : ℕ × Option Kind → ℕ × Option Kind
further f = (suc f.0, f.1)

-- The thread's next event belongs to this transaction.
abbrev pub is_open_for : ℕ → Txn → Bool
is_open_for thread t = (t.thread == thread) && not (is_ended t.text)

-- What these transactions tell of the thread.
abbrev pub find_open : ℕ → List Txn → Found
find_open thread [] = None
find_open thread (t ∷ ts) = if is_open_for thread t then Some (0, call_of t.text) else option_map further (find_open thread ts)

-- An answer that makes an operation, or else ends the transaction.
abbrev pub move_of : Ix → List Op → Move
move_of p [] = End p
move_of p (op ∷ ops) = Answer p op

-- What the event is to the thread, or what is wrong with it. Registers are left out of account.
abbrev pub after_call : Option (Ix × Option Kind) → Kind → Result Move Malformed
after_call None k = if asks k then Ok Begin else Err Idle
after_call (Some (p, None)) k = if asks k then Ok (Ask p) else Err Idle
after_call (Some (p, Some c)) k =
    if asks k then Err Busy else if answers c k then Ok (move_of p (operation c k)) else Err Mismatch

-- What an event is where a call is pending that it does not answer but for aborting.
abbrev pub end_at : Ix → Kind → Result Move Malformed
end_at p A = Ok (End p)
end_at p k = if asks k then Err Busy else Err Mismatch

-- The list with one of its members changed.
abbrev pub change : {A : Type 0} → ℕ → (A → A) → List A → List A
change i f [] = []
change zero f (x ∷ xs) = f x ∷ xs
change (suc i) f (x ∷ xs) = x ∷ change i f xs
