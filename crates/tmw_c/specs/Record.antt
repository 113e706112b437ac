-- How a call to record is answered.
use Rattle.tmw_c.specs.Shared.{HasRecorded, HeldRecorder, IsRefusal, Kind, recorder_ring, writer_of}
use Rattle.std.specs.Prelude.{◌≡◌, ℕ, Option, Some, None}
use Rattle.tmw_c.specs.Kinds.{AsksFor, IsNoLetter, IsNoRegister}
use Rattle.tmw_c.specs.declared.call_status.CallStatus.{CallStatus}
use Rattle.tmw_c.specs.declared.call_status.CallStatus.TheVariants.{Done, NoHandle, Full, Spent, BadKind, BadRegister}
use Rattle.tmw_ring.specs.declared.refused.Refused.TheVariants.{Full as IsFull, Spent as IsSpent}

-- The status says why no kind is asked for.
abbrev pub IsUnasked : (registers letter register : ℕ) → CallStatus → Type 0
IsUnasked registers letter register BadKind = IsNoLetter letter
IsUnasked registers letter register BadRegister = IsNoRegister registers letter register
IsUnasked registers letter register _ = ⊥

-- The recorder of the same thread and the same ring, for as many registers.
pub record IsSameEnd (old new : HeldRecorder) : Type 0 where
  pub ring : recorder_ring new.recorder ≡ recorder_ring old.recorder
  pub number : (writer_of new.recorder).number ≡ (writer_of old.recorder).number
  pub registers : new.registers ≡ old.registers

-- Just the event that is asked for was recorded, at this place of the one log.
pub record HasRecordedAsked (letter register value : ℕ) (old : HeldRecorder) (place : ℕ) (new : HeldRecorder) : Type 0 where
  pub kind : Kind
  pub asked : AsksFor old.registers.number letter register value kind
  pub same : IsSameEnd old new
  pub recorded : HasRecorded kind place (writer_of old.recorder) (writer_of new.recorder)

-- The event that is asked for was refused, and nothing was claimed: the ring was full.
pub record WasFull (letter register value : ℕ) (old new : HeldRecorder) : Type 0 where
  pub kind : Kind
  pub front : ℕ
  pub tail : ℕ
  pub asked : AsksFor old.registers.number letter register value kind
  pub same : IsSameEnd old new
  pub refused : IsRefusal kind (writer_of old.recorder) (IsFull front tail) (writer_of new.recorder)

-- The event that is asked for was refused, and nothing was claimed: the ring's places were spent.
pub record WasSpent (letter register value : ℕ) (old new : HeldRecorder) : Type 0 where
  pub kind : Kind
  pub tail : ℕ
  pub asked : AsksFor old.registers.number letter register value kind
  pub same : IsSameEnd old new
  pub refused : IsRefusal kind (writer_of old.recorder) (IsSpent tail) (writer_of new.recorder)

-- why a recorder has recorded nothing, and what it is then
abbrev pub HasRefused : (letter register value : ℕ) → HeldRecorder → HeldRecorder → CallStatus → Type 0
HasRefused letter register value old new Full = WasFull letter register value old new
HasRefused letter register value old new Spent = WasSpent letter register value old new
HasRefused letter register value old new BadKind = IsNoLetter letter × (new ≡ old)
HasRefused letter register value old new BadRegister = IsNoRegister old.registers.number letter register × (new ≡ old)
HasRefused letter register value old new _ = ⊥

-- why the recorder that a handle holds has recorded nothing, and what it is then
pub record HasRefusedHeld (letter register value : ℕ) (old new : Option HeldRecorder) (status : CallStatus) : Type 0 where
  pub before : HeldRecorder
  pub after : HeldRecorder
  pub held : old ≡ Some before
  pub holds : new ≡ Some after
  pub refused : HasRefused letter register value before after status

-- the recorder that a handle holds has recorded the event that is asked for
pub record HasRecordedHeld (letter register value place : ℕ) (old new : Option HeldRecorder) : Type 0 where
  pub before : HeldRecorder
  pub after : HeldRecorder
  pub held : old ≡ Some before
  pub holds : new ≡ Some after
  pub recorded : HasRecordedAsked letter register value before place after

-- Each status of a call to record, with what the handle holds then, and what place the caller is told.
abbrev pub IsRecording : (letter register value : ℕ) → (old new : Option HeldRecorder) → (old_place new_place : ℕ) → CallStatus → Type 0
IsRecording letter register value old new old_place new_place Done = HasRecordedHeld letter register value new_place old new
IsRecording letter register value old new old_place new_place NoHandle = (old ≡ None) × (new ≡ None) × (new_place ≡ old_place)
IsRecording letter register value old new old_place new_place status =
    HasRefusedHeld letter register value old new status × (new_place ≡ old_place)

-- Each status of a call to record that tells no place.
abbrev pub IsRecordingUntold : (letter register value : ℕ) → (old new : Option HeldRecorder) → CallStatus → Type 0
IsRecordingUntold letter register value old new status = (place : ℕ) × IsRecording letter register value old new 0 place status
