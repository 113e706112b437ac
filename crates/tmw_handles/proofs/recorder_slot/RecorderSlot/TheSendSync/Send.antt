-- A slot goes to another thread, as what it may hold does.
use mir.Raw.{raw}
use Rattle.std.specs.Prelude.{Option, None, Some}
use base.Shift.{Keyless}
use denote.Memory.{lone}
use denote.RawPtr.{Ptr}
use denote.Struct.Struct.{exits_of}
use denote.Struct.Owning.{shape, fields, to}
use denote.Param.Send.{IsSend, AllSend, owning_send, struct_send, sendable}
use Rattle.std.specs.Global.{Global}
use Rattle.std.proofs.Crossing as heap
use Rattle.std_alloc.proofs.SendSync.{quiet, lies}
use Rattle.std_heap.proofs.Global.TheSendSync as handle
use Rattle.tmw_handles.specs.Slots.{recorder_owned}
use Rattle.tmw_handles.specs.contracts.held_recorder.HeldRecorder as HeldRecorder
use Rattle.tmw_handles.proofs.held_recorder.HeldRecorder.TheSendSync.{the_send as held_send}
use Rattle.tmw_handles.specs.contracts.recorder_slot.RecorderSlot.{the_row, the_type}

owned : (alloc : Global) (at : Ptr) (held : Option HeldRecorder.the_row.Denot) → Keyless (recorder_owned alloc at held)
owned alloc at None = tt
owned alloc at (Some value) = (lies HeldRecorder.the_row held_send at value, heap.frees.frees alloc (raw (lone HeldRecorder.the_row.mir)) at)

pub send : IsSend the_row
send =
    let all : AllSend (fields the_type) = (search sendable, (handle.the_field_send, tt)) in
    owning_send the_type all (λ d. owned d.alloc d.at d.held)
    (λ k. quiet (to the_type) (exits_of k (fields the_type)) ((struct_send (shape the_type) all).leaving k))
