-- The slot of a box is made of its pointer, whose type is told no more, and its allocator; it owns what the parts owned.
use Rattle.tmw_handles.proofs.Steps.{Some, Tables, entered, id⊢, refl, tables, tables_of, triple_of}
use Rattle.tmw_handles.proofs.AsBoxes.{recorder_box as E}
use Rattle.tmw_handles.proofs.SlotWalks.{of_meets}
use Rattle.tmw_handles.specs.contracts.recorder_slot.RecorderSlot as Slot
use Rattle.tmw_handles.specs.contracts.recorder_slot.RecorderSlot.of_parts as called
use Rattle.tmw_handles.specs.contracts.recorder_slot.RecorderSlot.of_parts.Key as key
use Rattle.tmw_handles.proofs.recorder_slot.RecorderSlot.of_parts.Statement.{statement}
use Rattle.tmw_handles.proofs.recorder_slot.RecorderSlot.of_parts.Code as code

pub of_parts_spec : {M : Type 1} → statement M
unfolding tables_of
of_parts_spec 𝓤 𝓛 𝓜 𝓡 wired =
    let 𝓣 : Tables 𝓤 𝓛.H = tables_of 𝓤 𝓛.H 𝓜 (tables 𝓤 𝓛.H 𝓜 𝓡 𝓡.env) in
    entered 𝓤 𝓛.H (triple_of 𝓛 called.signature (called.spec 𝓛 𝓜.mem 𝓡.returns)) 𝓣.C 𝓣.Λ key.name code.function (code.unfolded 𝓤 𝓛.H 𝓜 𝓡 wired)
    (of_meets E _ _ Slot.the_row (λ slot. slot.held) 𝓛 𝓣 (λ _. tt) (λ given. record { at = given.ptr; alloc = given.alloc; held = Some given.value }) (λ _. refl)
    (λ given us. id⊢ 𝓤 _) (λ κs x f. refl))
