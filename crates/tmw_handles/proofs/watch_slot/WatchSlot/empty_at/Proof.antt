-- The pointer and the allocator are moved, and nothing else is owned.
use Rattle.tmw_handles.proofs.Steps.{ !, Fun, Goes-dropped, Item, List, Logic, Memory, None, Ptr, RawPtr, Routine, SProp, Stays, Tables, Ura, Val, Valss, WpFn, WpFn-mono, [], agg, alloc_all, and_then, by, done, drop, emp, ends_at, ent, enter, entered, feq_i, feq_l, fjoin, fpack, free_all, fsplit, ftrue, get, handle_tells, id⊢, join, look_at, move, no_more, nothing, of_list, owns, pass_all, plain, ptr_val, qed, raw, rawptr_Lawful, refl, returns, says, sets, shape, split, stay_dropped, subst, suffices, sym, tables, tables_of, to, triple_of, type_at, use1, vstruct, walk_Meets, walk_of, within, yes, ‵, ◌$◌, ◌++◌, ◌∵◌, ◌∷◌, ◌⊛◌}
use Rattle.std_heap.specs.contracts.Global as Heap
use Rattle.tmw_handles.specs.contracts.watch_slot.WatchSlot as WatchSlot
use Rattle.tmw_handles.proofs.AsBoxes.{slot_typed, watch_box as E}
use Rattle.tmw_handles.specs.contracts.watch_slot.WatchSlot.empty_at as F
use Rattle.tmw_handles.specs.contracts.watch_slot.WatchSlot.empty_at.Key.{name as #self}
use Rattle.tmw_handles.proofs.watch_slot.WatchSlot.empty_at.Statement as stated
use Rattle.tmw_handles.proofs.watch_slot.WatchSlot.empty_at.Code as code

abbrev stayed : Stays (F.ended).signature.params (F.ended).kept
stayed = (stay_dropped (plain (λ _. RawPtr)) yes, (stay_dropped (plain (λ _. Heap.the_row)) yes, tt))

module _ {M : Type 1} {𝓤 : Ura M} (𝓛 : Logic 𝓤) (at_mem : Memory → SProp 𝓤) (run : Routine → Fun 𝓤) (𝓣 : Tables 𝓤 𝓛.H) where
  open 𝓛 use {H}

  walk : (z : (walk_of 𝓛 F.ended stayed (F.clauses 𝓛 at_mem run)).Ghost)
      → ent 𝓤 ((walk_of 𝓛 F.ended stayed (F.clauses 𝓛 at_mem run)).pre z) (WpFn 𝓤 H 𝓣.C 𝓣.Λ code.function (z.0.4.0 ++ (z.0.4.1.0 ++ [])) ((walk_of 𝓛 F.ended stayed (F.clauses 𝓛 at_mem run)).post z))
  walk z =
      let Post = (walk_of 𝓛 F.ended stayed (F.clauses 𝓛 at_mem run)).post z in
      let p : Ptr = z.0.3.0 in
      let a : Heap.the_row.Denot = z.0.3.1.0 in
      let To = type_at (F.signature).result tt in
      let made : To.Denot = record { at = p; alloc = a; held = None } in
      qed 𝓛 ((‵ ftrue ⊛ ‵ (owns (RawPtr ∷ Heap.the_row ∷ []) (p, (a, tt)) z.0.4)) ∷ raw (emp 𝓤) ∷ []) ∵ split ! $ drop ! $ fsplit ! $
      feq_l ! (λ ep. fsplit ! $ handle_tells E.al ! a z.0.4.1.0 (λ hv ea fa. move ! (1 ∷ 2 ∷ []) $ drop ! $ drop ! $
      let w : Val = vstruct (of_list (ptr_val p ∷ hv ∷ [])) in
      let Γ : List (Item 𝓤) = ‵ (Heap.the_row.own_val a (hv ∷ [])) ∷ [] in
      by ! (subst (λ (us : List Val). ent 𝓤 (types.Kit.⋆ 𝓛 Γ) (WpFn 𝓤 H 𝓣.C 𝓣.Λ code.function (us ++ (z.0.4.1.0 ++ [])) Post)) (sym ep)
      (subst (λ (us : List Val). ent 𝓤 (types.Kit.⋆ 𝓛 Γ) (WpFn 𝓤 H 𝓣.C 𝓣.Λ code.function (ptr_val p ∷ (us ++ [])) Post)) (sym ea)
      (qed 𝓛 Γ ∵ enter ! 𝓣.C 𝓣.Λ code.function (ptr_val p ∷ hv ∷ []) _ $ alloc_all ! (λ ls.
      pass_all ! refl (((rawptr_Lawful 𝓛).typed p _ refl).0, (fa, tt)) $
      sets ! (agg ! (and_then ! (get ! refl) (and_then ! (get ! refl) (no_more !)))) refl (slot_typed E p hv fa) $ returns ! (look_at ! 0 refl) $ free_all ! refl $
      nothing ! $ move ! (1 ∷ 0 ∷ []) $ fjoin ! $ feq_i ! (List Val) (ptr_val p ∷ []) (ptr_val p ∷ []) refl $ fjoin ! $ feq_i ! (List Val) (w ∷ []) (w ∷ []) refl $ fjoin ! $
      fpack ! (Valss (RawPtr ∷ (Heap.the_field).row ∷ [])) (within (shape WatchSlot.the_type) (to WatchSlot.the_type made) (w ∷ [])) (ptr_val p ∷ [], (hv ∷ [], tt)) $
      nothing ! $ move ! (1 ∷ 0 ∷ []) $ fjoin ! $ use1 𝓛 (‵ (To.own_val made (w ∷ []))) (id⊢ 𝓤 _) $
      suffices ! _ (ends_at 𝓛 F.ended stayed (F.clauses 𝓛 at_mem run) z w made (tt, (tt, tt)) (tt, (tt, tt))) $ says ! refl $
      nothing ! $ nothing ! $ fjoin ! $ nothing ! $ fjoin ! $ join ! $ nothing ! $ join ! $ done !))))))

pub empty_at_spec : {M : Type 1} → stated.statement M
unfolding tables_of
empty_at_spec 𝓤 𝓛 𝓜 𝓡 wired =
    let 𝓣 : Tables 𝓤 𝓛.H = tables_of 𝓤 𝓛.H 𝓜 (tables 𝓤 𝓛.H 𝓜 𝓡 𝓡.env) in
    entered 𝓤 𝓛.H (triple_of 𝓛 F.signature (F.spec 𝓛 𝓜.mem 𝓡.returns)) 𝓣.C 𝓣.Λ #self code.function (code.unfolded 𝓤 𝓛.H 𝓜 𝓡 wired)
    (walk_Meets 𝓛 F.ended stayed (Goes-dropped 𝓛 0 (plain (λ _. RawPtr)) yes (λ κs x f. refl), (Goes-dropped 𝓛 0 (plain (λ _. Heap.the_row)) yes (λ κs x f. refl), tt)) (F.clauses 𝓛 𝓜.mem 𝓡.returns) (WpFn 𝓤 𝓛.H 𝓣.C 𝓣.Λ code.function) (WpFn-mono 𝓤 𝓛.H 𝓛.laws 𝓣 code.function)
    (walk 𝓛 𝓜.mem 𝓡.returns 𝓣))
