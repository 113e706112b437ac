-- The pointer of a slot that holds something is told its type again, and the parts own what the slot owned.
use Rattle.tmw_handles.proofs.Steps.{B, Option, Tables, ent, entered, id⊢, refl, sem, subst, sym, tables, tables_of, triple_of}
use Rattle.tmw_handles.proofs.AsBoxes.{watch_box as E}
use Rattle.tmw_handles.proofs.SlotWalks.{into_meets}
use Rattle.tmw_handles.specs.contracts.watch_slot.WatchSlot as Slot
use Rattle.tmw_handles.specs.contracts.watch_slot.WatchSlot.into_parts as called
use Rattle.tmw_handles.specs.contracts.watch_slot.WatchSlot.into_parts.Key as key
use Rattle.tmw_handles.proofs.watch_slot.WatchSlot.into_parts.Statement.{statement}
use Rattle.tmw_handles.proofs.watch_slot.WatchSlot.into_parts.Code as code

pub into_parts_spec : {M : Type 1} → statement M
unfolding tables_of
into_parts_spec 𝓤 𝓛 𝓜 𝓡 wired =
    let 𝓣 : Tables 𝓤 𝓛.H = tables_of 𝓤 𝓛.H 𝓜 (tables 𝓤 𝓛.H 𝓜 𝓡 𝓡.env) in
    entered 𝓤 𝓛.H (triple_of 𝓛 called.signature (called.spec 𝓛 𝓜.mem 𝓡.returns)) 𝓣.C 𝓣.Λ key.name code.function (code.unfolded 𝓤 𝓛.H 𝓜 𝓡 wired)
    (into_meets E _ _ Slot.the_row (λ slot. slot.held) 𝓛 𝓣 (λ _. tt) (λ slot. slot.at) (λ slot. slot.alloc)
    (λ slot value us is. subst (λ (held : Option E.row.Denot). ent 𝓤 (sem 𝓛 (Slot.the_row.own_val (record slot { held = held }) us))
    (sem 𝓛 ((B E).own_val (record { ptr = slot.at; alloc = slot.alloc; value = value }) us))) (sym is) (id⊢ 𝓤 _)) (λ κs x f. refl))
