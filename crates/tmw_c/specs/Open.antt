-- How a call to open a watch is answered.
use Rattle.tmw_c.specs.Shared.{HeldRecorder, Open, Recorder, RecorderHandle, Watch, recorder_in, watch_in}
use Rattle.std.specs.Prelude.{◌≡◌, ◌≤◌, ◌<◌, ℕ, List, Option, Some, None, length, get_or, slice_index, All}
use Rattle.tmw_c.specs.declared.call_status.CallStatus.{CallStatus}
use Rattle.tmw_c.specs.declared.call_status.CallStatus.TheVariants.{Done, FullHandle, BadRegisters, BadStart, BadBounds, BadSize, BadLimit, Memory}
use Rattle.tmw_c.specs.declared.c_settings.CSettings.{CSettings}
use Rattle.tmw_events.specs.declared.registers.Registers.{Registers}
use Rattle.tmw_handles.specs.declared.watch_handle.WatchHandle.{WatchHandle}
use Rattle.tmw_ring_defs.specs.RingSize.{HasRoom, HasLimit}
use Rattle.tmw_watch.specs.Open.{IsOpened}
use Rattle.tmw_watch.specs.declared.settings.WatchSettings.{WatchSettings}

-- The memory has 1 to 8 registers.
pub record HasRegisters (wanted : CSettings) : Type 0 where
  pub some : 1 ≤ wanted.registers
  pub most : wanted.registers ≤ 8

-- Each register that the memory does not have is to begin at 0.
abbrev pub BeginsWell : CSettings → Type 0
BeginsWell wanted = (register : ℕ) → wanted.registers ≤ register → register < 8 → slice_index wanted.start register ≡ 0

-- 1 to 8 transactions in a window, and 1 to 64 outcomes at a cut
pub record HasBounds (wanted : CSettings) : Type 0 where
  pub some_transactions : 1 ≤ wanted.window
  pub most_transactions : wanted.window ≤ 8
  pub some_states : 1 ≤ wanted.states
  pub most_states : wanted.states ≤ 64

-- What is to be watched, and how far it is judged, is in its range.
pub record IsWanted (wanted : CSettings) : Type 0 where
  pub registers : HasRegisters wanted
  pub start : BeginsWell wanted
  pub bounds : HasBounds wanted

-- The status says what of it is not; the first that is not, in the order of the registers, the start and the bounds.
abbrev pub IsUnwanted : CSettings → CallStatus → Type 0
IsUnwanted wanted BadRegisters = HasRegisters wanted → ⊥
IsUnwanted wanted BadStart = HasRegisters wanted × (BeginsWell wanted → ⊥)
IsUnwanted wanted BadBounds = HasRegisters wanted × BeginsWell wanted × (HasBounds wanted → ⊥)
IsUnwanted wanted _ = ⊥

-- The settings of a watch are those that are wanted, with so many recorders.
pub record AreSettings (wanted : CSettings) (recorders : ℕ) (settings : WatchSettings) : Type 0 where
  pub registers : settings.registers.number ≡ wanted.registers
  pub start : settings.start ≡ wanted.start
  pub window : settings.bounds.window ≡ wanted.window
  pub states : settings.bounds.states ≡ wanted.states
  pub cells : settings.cells ≡ wanted.cells
  pub limit : settings.limit ≡ wanted.limit
  pub recorders_are : settings.recorders ≡ recorders

-- Just this recorder is held, of a memory of so many registers.
abbrev pub Holds : Registers → Recorder → Option HeldRecorder → Type 0
Holds registers recorder None = ⊥
Holds registers recorder (Some held) = (held.recorder ≡ recorder) × (held.registers ≡ registers)

-- Each recorder is held by the handle at its place, and there are no more handles.
pub record AreHandlesOf (registers : Registers) (recorders : List Recorder) (handles : List RecorderHandle) : Type 0 where
  pub counted : length handles ≡ length recorders
  pub each : (place : ℕ) (handle : RecorderHandle) (recorder : Recorder) → place < length handles
      → Holds registers (get_or recorders place recorder) (recorder_in (get_or handles place handle))

-- None of these handles holds anything.
abbrev pub AreEmpty : List RecorderHandle → Type 0
AreEmpty handles = All (λ (handle : RecorderHandle). recorder_in handle ≡ None) handles

-- The handle of the watch holds nothing, and none of its recorders' handles does.
pub record IsAllEmpty (watch : WatchHandle) (handles : List RecorderHandle) : Type 0 where
  pub watch_empty : watch_in watch ≡ None
  pub handles_empty : AreEmpty handles

-- A new watch is held, by these settings, and each of its recorders by the handle at the place of its number.
pub record HasOpened (wanted : CSettings) (watch : WatchHandle) (handles : List RecorderHandle) : Type 0 where
  pub settings : WatchSettings
  pub wanted_are : AreSettings wanted (length handles) settings
  pub opened : Watch
  pub recorders : List Recorder
  pub new : IsOpened settings opened recorders
  pub held : watch_in watch ≡ Some (Open opened)
  pub each : AreHandlesOf settings.registers recorders handles

-- Why no watch was opened of what is wanted, with so many recorders: the first that is out of its range, or there was no memory.
abbrev pub IsUnopened : CSettings → ℕ → CallStatus → Type 0
IsUnopened wanted recorders BadSize = IsWanted wanted × (HasRoom wanted.cells recorders → ⊥)
IsUnopened wanted recorders BadLimit = IsWanted wanted × HasRoom wanted.cells recorders × (HasLimit recorders wanted.limit → ⊥)
IsUnopened wanted recorders Memory = IsWanted wanted × HasRoom wanted.cells recorders × HasLimit recorders wanted.limit
IsUnopened wanted recorders status = IsUnwanted wanted status

-- Each status of a call to open, with what the handles hold then. A handle that is full is answered before all else. But for a watch
-- that is opened, all handles are as before.
abbrev pub IsOpening : CSettings → (old new : WatchHandle) → (olds news : List RecorderHandle) → CallStatus → Type 0
IsOpening wanted old new olds news Done = IsAllEmpty old olds × HasOpened wanted new news × (length news ≡ length olds)
IsOpening wanted old new olds news FullHandle = (IsAllEmpty old olds → ⊥) × (new ≡ old) × (news ≡ olds)
IsOpening wanted old new olds news status =
    IsAllEmpty old olds × IsUnopened wanted (length olds) status × (new ≡ old) × (news ≡ olds)
