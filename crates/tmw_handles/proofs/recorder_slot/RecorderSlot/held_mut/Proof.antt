-- What a full slot owns is lent at its pointer, and the slot follows it.
use Rattle.tmw_handles.proofs.Steps.{ !, B, Calls, D, Fml, Fun, GName, Goes-spent_ref, IsSome, Lft, List, Logic, Loops, Memory, None, Option, R, Routine, SProp, Share, Some, Stays, Ura, Val, WpFn, [], addr, alloc_all, at_ret, await, block_ptr, blocks, box_in, box_out, by, done, drop, ends_at, ent, enter, env, exec, fact, first, fjoin, fld, flft, fpack, frame, free_all, fsep, fsplit, fsplit3, ftrue, get, group, handle, heard, id⊢, join, keep, later, load, look_at, look_in, move, mut_ref_to, named, no, nothing, of_opd, opens, pass_all, pick, plain, qed, raw, recorder_owned, refl, returns, rewrite, says, sem, sep, sets, sets_last, some, split, stay_dropped, stop, sub, suffices, tables, through, token, use1, vptr, walk_of, whole, word, τ, ‵, ◌$◌, ◌∵◌, ◌∷◌, ◌≡◌, ◌⊛◌}
use Prim.Native.Nat.{ℕ}
use base.Fraction.{full_share}
use denote.Follow.{follows, Part, lends_Part}
use denote.Memory.{part_at, mem, cell_at, part_of}
use denote.Ref.{MutRef, mut_vals, mut_Tells}
use denote.Triple.Entry.{on_entry}
use Rattle.std.proofs.raw_atomic.Walks.{proved}
use Rattle.std.proofs.VecSteps.Shapes.{after}
use Rattle.tmw_handles.specs.SlotLoan.{with_held}
use mir.Raw.{raw as bare}
use Rattle.tmw_handles.proofs.AsBoxes.{recorder_box as E, none_is_some}
use Rattle.tmw_handles.specs.contracts.held_recorder.HeldRecorder as Held
use Rattle.tmw_handles.specs.contracts.recorder_slot.RecorderSlot as Place
use Rattle.tmw_handles.specs.contracts.recorder_slot.RecorderSlot.held_mut as called
use Rattle.tmw_handles.specs.contracts.recorder_slot.RecorderSlot.held_mut.Key as key
use Rattle.tmw_handles.proofs.recorder_slot.RecorderSlot.held_mut.Statement.{statement}
use Rattle.tmw_handles.proofs.recorder_slot.RecorderSlot.held_mut.Code as code

abbrev stayed : Stays called.ended.signature.params called.ended.kept
stayed = (stay_dropped (mut_ref_to (0 ∷ []) tt (plain (λ _. Place.the_row))) no, tt)

module _ {M : Type 1} {𝓤 : Ura M} (𝓛 : Logic 𝓤) (memory : Memory → SProp 𝓤) (run : Routine → Fun 𝓤) (κ : Lft) (q : Share) (rb ro : ℕ) (γ : GName) (place : Place.the_row.Denot) where
  open 𝓛 use {H, A}

  abbrev bound : (walk_of 𝓛 called.ended stayed (called.clauses 𝓛 memory run)).Ghost
  bound = (((κ, tt), (q, tt), tt, (record { ref_ptr = (rb, ro); ghost_name = γ; now = place }, tt), (vptr rb ro ∷ [], tt)), tt)

  abbrev ended : Val → SProp 𝓤
  ended = (walk_of 𝓛 called.ended stayed (called.clauses 𝓛 memory run)).post bound

  module _ (block count : ℕ) (allocator : Val) where
    -- all of the slot but what is held
    abbrev Rest : Fml
    Rest = fsep (fsep (token E.al place.alloc (bare (τ E)) (block_ptr block count)) (handle E place.alloc allocator))
        (cell_at full_share Place.the_row.mir (word E allocator block count ∷ []) rb ro)

    back : place.at ≡ block_ptr block count → (value : Held.the_row.Denot)
        → ent 𝓤 (sep 𝓤 (sem 𝓛 ((mem Held.the_row).own_at value block count)) (sem 𝓛 Rest)) (sem 𝓛 ((mem Place.the_row).own_at (with_held place value) rb ro))
    unfolding part_of
    back leads value =
        let given : D E = record { ptr = place.at; alloc = place.alloc; value = value } in
        let bits = word E allocator block count in
        qed 𝓛 (‵ (part_at (R E) full_share value block count) ∷ ‵ Rest ∷ []) ∵ move ! (1 ∷ []) $ fsplit ! $ fsplit ! $ move ! (3 ∷ []) $
        box_in E ! given block count value leads refl $ use1 𝓛 (‵ (Place.the_row.own_val (with_held place value) (bits ∷ []))) (id⊢ 𝓤 _) $
        move ! (1 ∷ 0 ∷ []) $ fjoin ! $
        fpack ! (List Val) (λ us. fsep (cell_at full_share Place.the_row.mir us rb ro) (Place.the_row.own_val (with_held place value) us)) (bits ∷ []) $ done !

    exits : (value : Held.the_row.Denot) → place.held ≡ Some value → (lent : GName)
        → ent 𝓤 (sep 𝓤 (sem 𝓛 ((MutRef (named 0) κ Held.the_row).own_val (record { ref_ptr = (block, count); ghost_name = lent; now = value }) (vptr block count ∷ [])))
        (sep 𝓤 (A.lft κ q) (sem 𝓛 (follows Place.the_row Held.the_row γ lent (with_held place))))) (ended (vptr block count))
    exits value is lent =
        qed 𝓛 (‵ ((MutRef (named 0) κ Held.the_row).own_val (record { ref_ptr = (block, count); ghost_name = lent; now = value }) (vptr block count ∷ []))
        ∷ ‵ (flft κ q) ∷ ‵ (follows Place.the_row Held.the_row γ lent (with_held place)) ∷ []) ∵
        suffices ! _ (ends_at 𝓛 called.ended stayed (called.clauses 𝓛 memory run) bound (vptr block count) (record { ref_ptr = (block, count); ghost_name = lent; now = value }) (tt, tt) (tt, tt)) $
        nothing ! $ nothing ! $ fjoin ! $ join ! $ nothing ! $ move ! (2 ∷ 0 ∷ []) $ join ! $ join ! $ frame ! $ says ! is $ done !

  module _ (calls : Calls 𝓤 𝓛.H) (loops : Loops 𝓤 𝓛.H) where
    walk : (held : Option Held.the_row.Denot) → place.held ≡ held
        → ent 𝓤 ((walk_of 𝓛 called.ended stayed (called.clauses 𝓛 memory run)).pre bound) (WpFn 𝓤 𝓛.H calls loops code.function (vptr rb ro ∷ []) ended)
    walk None is =
        qed 𝓛 (raw (on_entry 𝓛 called.signature (κ, tt) (q, tt) (record { ref_ptr = (rb, ro); ghost_name = γ; now = place }, tt) (vptr rb ro ∷ [], tt)) ∷ raw (fact 𝓤 (IsSome place.held)) ∷ []) ∵
        move ! (1 ∷ []) $ heard ! (IsSome place.held) (λ some. absurd (none_is_some place.held is some))
    walk (Some value) is =
        let given : D E = record { ptr = place.at; alloc = place.alloc; value = value } in
        qed 𝓛 (((‵ (flft κ q) ⊛ ‵ ftrue) ⊛ ‵ ((MutRef (named 0) κ Place.the_row).own_val (record { ref_ptr = (rb, ro); ghost_name = γ; now = place }) (vptr rb ro ∷ [])) ⊛ ‵ ftrue) ∷ raw (fact 𝓤 (IsSome place.held)) ∷ []) ∵
        split ! $ split ! $ move ! (2 ∷ []) $ split ! $ keep ! (0 ∷ 2 ∷ []) $
        enter ! calls loops code.function (vptr rb ro ∷ []) _ $
        alloc_all ! (λ locals. pass_all ! refl ((tt, tt), tt) $
        -- [the borrow of the slot, in two parts; the token]
        fsplit3 ! $ drop ! $ opens ! tt Place.the_row rb ro (λ bits. move ! (1 ∷ []) $ fsplit ! $ move ! (1 ∷ []) $
        rewrite ! 0 (λ (held : Option Held.the_row.Denot). ‵ (recorder_owned place.alloc place.at held)) is refl $
        move ! (1 ∷ 0 ∷ []) $ fjoin ! $ use1 𝓛 (‵ ((B E).own_val given bits)) (id⊢ 𝓤 _) $
        box_out E ! given bits (λ block count allocator leads stored fits. move ! (1 ∷ 2 ∷ []) $ fjoin ! $ move ! (1 ∷ []) $
        rewrite ! 2 (λ (words : List Val). ‵ (cell_at full_share Place.the_row.mir words rb ro)) stored refl $
        -- [what is held; the right to free it, and the allocator; the slot's cell; the open borrow, in three parts]
        first ! $ blocks ! $
        sets ! (of_opd ! (load ! (through ! refl (fld ! refl (stop !))) (look_in ! 2 (sub ! 0 refl (whole !))))) refl (tt, tt) $
        -- the cast
        sets ! (of_opd ! (get ! refl)) refl (tt, tt) $
        sets_last ! (addr ! (through ! refl (stop !))) refl (tt, tt) $
        exec ! calls loops (env code.Mir.locals locals) (after 1 (code.function).body) (at_ret _ ended) $
        sets ! (of_opd ! (get ! refl)) refl (tt, tt) $
        move ! (1 ∷ 2 ∷ []) $ fjoin ! $ move ! (2 ∷ 3 ∷ 4 ∷ 1 ∷ 0 ∷ []) $ group ! 5 $
        use1 𝓛 (later (some (λ (lent : GName). raw (Part 𝓛 Place.the_row Held.the_row (with_held place) (named 0) κ q rb ro block count γ
        (sem 𝓛 (Rest block count allocator)) (back block count allocator leads) value lent))))
        (lends_Part 𝓛 Place.the_row Held.the_row (with_held place) (named 0) κ q rb ro block count γ
        (sem 𝓛 (Rest block count allocator)) (back block count allocator leads) (Place.the_row.coded.code place) (Place.the_row.coded.code place) value) $
        await ! tt $ pick ! (λ lent. returns ! (look_at ! 0 refl) $ free_all ! refl $ keep ! (0 ∷ []) $ by ! (exits block count allocator value is lent)))))

pub held_mut_spec : {M : Type 1} → statement M
held_mut_spec 𝓤 𝓛 𝓜 𝓡 wired =
    let clauses = called.clauses 𝓛 𝓜.mem 𝓡.returns in
    let 𝓣 = tables 𝓤 𝓛.H 𝓜 𝓡 𝓡.env in
    proved 𝓛 called.ended stayed clauses 𝓜 𝓡 (Goes-spent_ref 𝓛 1 (0 ∷ []) tt (plain (λ _. Place.the_row)), tt)
    key.name code.function (code.unfolded 𝓤 𝓛.H 𝓜 𝓡 wired)
    (λ κs. (mut_vals, tt)) (λ κs. (mut_Tells (named 0) κs.0 Place.the_row, tt)) (λ κs qs bounds a _ are.
    walk 𝓛 𝓜.mem 𝓡.returns κs.0 qs.0 a.0.ref_ptr.0 a.0.ref_ptr.1 a.0.ghost_name a.0.now 𝓣.C 𝓣.Λ a.0.now.held refl)
