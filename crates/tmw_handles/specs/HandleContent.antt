-- What a handle holds, and of a recorder's which one.
use Rattle.std.specs.Prelude.{◌≡◌, ℕ, Option, None, Some}
use Rattle.tmw_handles.specs.declared.held_recorder.HeldRecorder.{HeldRecorder}
use Rattle.tmw_handles.specs.declared.held_watch.HeldWatch.{HeldWatch}
use Rattle.tmw_handles.specs.declared.recorder_handle.RecorderHandle.{RecorderHandle}
use Rattle.tmw_handles.specs.declared.watch_handle.WatchHandle.{WatchHandle}
use Rattle.tmw_watch.specs.WatchParts.{writer_of}

-- what the handle of a recorder holds, if anything
abbrev pub recorder_in : RecorderHandle → Option HeldRecorder
recorder_in handle = handle.slot.held

-- what the handle of a watch holds, if anything
abbrev pub watch_in : WatchHandle → Option HeldWatch
watch_in handle = handle.slot.held

-- A recorder is held, of this number.
abbrev pub HasNumber : ℕ → Option HeldRecorder → Type 0
HasNumber number None = ⊥
HasNumber number (Some held) = (writer_of held.recorder).number.number ≡ number
