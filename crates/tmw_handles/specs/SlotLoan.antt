-- What becomes of a recorder's slot that lends what it holds.
use Rattle.std.specs.Prelude.{Some}
use Rattle.std.specs.Borrow.{Lends, MutBor, Fml}
use Rattle.tmw_handles.specs.contracts.held_recorder.HeldRecorder as Held
use Rattle.tmw_handles.specs.contracts.recorder_slot.RecorderSlot as Slot
use Rattle.tmw_handles.specs.declared.held_recorder.HeldRecorder.{HeldRecorder}
use Rattle.tmw_handles.specs.declared.recorder_slot.RecorderSlot.{RecorderSlot}

-- the slot with this in place of what it holds
abbrev pub with_held : RecorderSlot → HeldRecorder → RecorderSlot
with_held slot held = record slot { held = Some held }

-- The slot holds in the end what the borrower leaves.
abbrev pub lends_held : MutBor RecorderSlot → MutBor HeldRecorder → Fml
lends_held slot lent = Lends Slot.the_row Held.the_row slot lent (with_held slot.now)
