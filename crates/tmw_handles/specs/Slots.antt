-- What a slot owns: nothing, or what a box at its pointer does.
use Rattle.std.specs.Prelude.{Option, None, Some}
use Rattle.std.specs.Coded.{coded_option}
use base.Fml.{Fml, ftrue}
use base.Stored.{Coded}
use denote.RawPtr.{Ptr}
use Rattle.std.specs.Box.Ownership.{box_owns}
use Rattle.std.specs.Global.{Global}
use Rattle.std_heap.specs.contracts.GlobalAllocator.TheImpl.{ghosts}
use Rattle.tmw_handles.specs.contracts.held_recorder.HeldRecorder as HeldRecorder
use Rattle.tmw_handles.specs.contracts.held_watch.HeldWatch as HeldWatch

-- what a recorder's slot owns
abbrev pub recorder_owned : Global → Ptr → Option HeldRecorder.the_row.Denot → Fml
recorder_owned alloc at None = ftrue
recorder_owned alloc at (Some held) = box_owns (ghosts.dealloc_token alloc) HeldRecorder.the_row at held

-- what a watch's slot owns
abbrev pub watch_owned : Global → Ptr → Option HeldWatch.the_row.Denot → Fml
watch_owned alloc at None = ftrue
watch_owned alloc at (Some held) = box_owns (ghosts.dealloc_token alloc) HeldWatch.the_row at held

abbrev pub recorder_coded : Coded (Option HeldRecorder.the_row.Denot)
recorder_coded = coded_option HeldRecorder.the_row.coded

abbrev pub watch_coded : Coded (Option HeldWatch.the_row.Denot)
watch_coded = coded_option HeldWatch.the_row.coded
