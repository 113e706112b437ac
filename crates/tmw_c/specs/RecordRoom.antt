-- How a call that asks for room for several records is answered.
use Rattle.tmw_c.specs.Shared.{HeldRecorder, writer_of}
use Rattle.std.specs.Prelude.{◌≡◌, ◌⊎◌, ℕ, Option, Some, None}
use Rattle.tmw_c.specs.Record.{IsSameEnd}
use Rattle.tmw_c.specs.declared.call_status.CallStatus.{CallStatus}
use Rattle.tmw_c.specs.declared.call_status.CallStatus.TheVariants.{Done, NoHandle, Full, Spent}
use Rattle.tmw_ring.specs.Room.{HasFoundRoom, LacksRoom}
use Rattle.tmw_ring.specs.declared.refused.Refused.TheVariants.{Full as IsFull, Spent as IsSpent}

-- So many records find room.
pub record FindsRoom (records : ℕ) (old new : HeldRecorder) : Type 0 where
  pub same : IsSameEnd old new
  pub found : HasFoundRoom records (writer_of old.recorder) (writer_of new.recorder)

-- The last of so many records would find the ring full.
pub record FindsFull (records : ℕ) (old new : HeldRecorder) : Type 0 where
  pub same : IsSameEnd old new
  pub front : ℕ
  pub tail : ℕ
  pub lacks : LacksRoom records (writer_of old.recorder) (IsFull front tail) (writer_of new.recorder)

-- The last of so many records would find the ring's places spent.
pub record FindsSpent (records : ℕ) (old new : HeldRecorder) : Type 0 where
  pub same : IsSameEnd old new
  pub tail : ℕ
  pub lacks : LacksRoom records (writer_of old.recorder) (IsSpent tail) (writer_of new.recorder)

-- what a recorder has found that was asked for room, by the status
abbrev pub Finds : (records : ℕ) → HeldRecorder → HeldRecorder → CallStatus → Type 0
Finds records old new Done = FindsRoom records old new
Finds records old new Full = FindsFull records old new
Finds records old new Spent = FindsSpent records old new
Finds records old new _ = ⊥

-- what the recorder that a handle holds has found, by the status
pub record FindsHeld (records : ℕ) (old new : Option HeldRecorder) (status : CallStatus) : Type 0 where
  pub before : HeldRecorder
  pub after : HeldRecorder
  pub held : old ≡ Some before
  pub holds : new ≡ Some after
  pub finds : Finds records before after status

-- The handle holds nothing, and the status says so; or the recorder that it holds, and holds then again, was asked.
abbrev pub IsAsking : (records : ℕ) → (old new : Option HeldRecorder) → CallStatus → Type 0
IsAsking records old new status = ((status ≡ NoHandle) × (old ≡ None) × (new ≡ None)) ⊎ FindsHeld records old new status
