-- What a slot that is full and its parts own is what a box owns.
use mir.Syntax.{impl, tnil, dnil}
use mathlib.Core.Path.{◌≡◌}
use mathlib.Core.List.{[], ◌∷◌}
use lib.Dec.{T, lit<}
use mir.Val.{Val, vstruct, of_list, has_ty, WT}
use denote.RawPtr.{Ptr, block_ptr, null_ptr, ptr_val}
use Rattle.std.proofs.alloc.Calls.{Fits, α}
use Rattle.std_alloc.proofs.ResultValues.{and_tt}
use Rattle.std.specs.Prelude.{Option, None, Some, IsSome}
use denote.Param.Laws.{Laws}
use denote.RattleType.{RattleType}
use Rattle.std_alloc.proofs.BoxSteps.Form.{Bx, box_ty}
use Rattle.std_heap.specs.contracts.Global as Heap
use Rattle.std_heap.specs.contracts.GlobalAllocator.TheImpl.{ghosts, dict}
use Rattle.std_heap.proofs.Global.TheLaws as heap
use Rattle.tmw_handles.specs.contracts.held_recorder.HeldRecorder as HeldRecorder
use Rattle.tmw_handles.proofs.held_recorder.HeldRecorder.TheLaws as held_recorder
use Rattle.tmw_handles.specs.contracts.held_watch.HeldWatch as HeldWatch
use Rattle.tmw_handles.proofs.held_watch.HeldWatch.TheLaws as held_watch

-- a box of the heap, of this type
abbrev pub heap_box : (row : RattleType) → Laws row → Bx
heap_box row laws = record { row = row; laws = laws; al = record { row = Heap.the_row; laws = heap.the_row_laws; g = ghosts; d = dict; drops = impl [] tnil dnil } }

abbrev pub recorder_box : Bx
recorder_box = heap_box HeldRecorder.the_row held_recorder.the_row_laws

abbrev pub watch_box : Bx
watch_box = heap_box HeldWatch.the_row held_watch.the_row_laws

pub none_is_some : {A : Type 0} (held : Option A) → held ≡ None → IsSome held → ⊥
none_is_some None is some = absurd (cc)
none_is_some (Some value) is some = absurd (cc)

-- A pointer, also to nothing, and an allocator are of a box's type.
pub slot_typed : (E : Bx) (at : Ptr) (handle : Val) → Fits E.al handle
    → T (has_ty (box_ty E) (vstruct (of_list (ptr_val at ∷ handle ∷ [])))) × WT (vstruct (of_list (ptr_val at ∷ handle ∷ [])))
slot_typed E (block_ptr block count) handle fits = (and_tt (has_ty (α E.al) handle) fits.0, (tt, (fits.1, tt)))
slot_typed E null_ptr handle fits = (and_tt (has_ty (α E.al) handle) fits.0, (record { fits = lit< tt }, (fits.1, tt)))
