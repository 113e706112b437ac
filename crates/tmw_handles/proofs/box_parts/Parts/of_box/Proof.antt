-- The call gives a pointer, an allocator and what the box owned, and the parts are made of these.
use Rattle.tmw_handles.proofs.Steps.{ !, Args, B, Bx, Clauses, Contract, D, Dict, Ended, Fn, Fun, Goes-blank, Item, List, Logic, Memory, P, Ptr, R, RattleType, RawPtr, Routine, SProp, Slot, Stays, Tables, Triple, Ura, Val, WpFn, WpFn-mono, [], a_type, agg, alloc_all, and_then, ap, await, block_ptr, box_in, box_out, box_owns, box_typed, by, calls_at, dcons, dnil, done, drop, ends_at, ent, enter, entered, fact, feq_l, fjoin, fld, flft, fm_of, fpick, free_all, fsep, fsplit, fst∗, ftrue, get, get_in, handle_tells, heard, id⊢, in_a_block, inst_fn, join, lands_as, later, look_at, move, never, no, no_more, nothing, null_ptr, of_list, of_opd, only, pass_all, pick, plain, ptr_val, qed, raw, refl, returns, rewrite, says, sem, sets, some, split, split3, stay_dropped, stop, sub, subst, suffices, sym, tables, tables_of, token, triple_of, use1, vstruct, walk_Meets, walk_of, whole, word, τ, ‵, ◌$◌, ◌++◌, ◌∙◌, ◌∵◌, ◌∷◌, ◌≡◌, ◌⊑◌, ◌⊛◌}
use denote.Param.{bounded}
use denote.Struct.Tuple.{Tuple}
use mir.Raw.{raw as bare}
use Rattle.std_alloc.specs.contracts.boxed.Box.into_raw_with_allocator as callee
use Rattle.std_alloc.proofs.boxed.Box.into_raw_with_allocator.Met as callee_met
use Rattle.std_alloc.proofs.boxed.Box.into_raw_with_allocator.Symbol as callee_symbol
use Rattle.tmw_handles.specs.contracts.box_parts.Parts as Parts
use Rattle.tmw_handles.specs.contracts.box_parts.Parts.of_box as f
use Rattle.tmw_handles.specs.contracts.box_parts.Parts.of_box.Key.{name as own_name}
use Rattle.tmw_handles.proofs.box_parts.Parts.of_box.Code as code
use Rattle.tmw_handles.proofs.box_parts.Parts.of_box.Statement.{statement}

module _ (E : Bx) (glue : Dict) where
  -- what the callee is instantiated at, which is what the caller is
  abbrev at_types : Args
  at_types = bounded (a_type ∷ a_type ∷ []) (E.row, (E.al.row, tt)) (dcons E.al.d (dcons E.al.drops (dcons glue dnil)))

  abbrev instance : Fn
  instance = inst_fn at_types code.function

  abbrev ended : Ended
  ended = f.ended E.row E.al.row E.al.g E.al.d E.al.drops glue

  abbrev given : Slot 2
  given = plain (λ _. B E)

  abbrev stayed : Stays ended.signature.params ended.kept
  stayed = (stay_dropped given no, tt)

  abbrev Made : RattleType
  Made = Parts.the_row (R E) (P E) E.al.g

  module _ {M : Type 1} {𝓤 : Ura M} (𝓛 : Logic 𝓤) (at_mem : Memory → SProp 𝓤) (run : Routine → Fun 𝓤) (𝓣 : Tables 𝓤 𝓛.H) where
    abbrev clauses : Clauses 𝓤 ended
    clauses = f.clauses E.row E.al.row E.al.g E.al.d E.al.drops glue 𝓛 at_mem run

    abbrev Called : Contract 𝓤
    Called = triple_of 𝓛 (callee.signature E.row E.al.row E.al.g E.al.d E.al.drops glue) (callee.spec E.row E.al.row E.al.g E.al.d E.al.drops glue 𝓛 at_mem run)

    walk : Triple 𝓤 (𝓣.C (callee_symbol.name at_types)) Called → (z : (walk_of 𝓛 ended stayed clauses).Ghost)
        → ent 𝓤 ((walk_of 𝓛 ended stayed clauses).pre z) (WpFn 𝓤 𝓛.H 𝓣.C 𝓣.Λ instance (z.0.4.0 ++ []) ((walk_of 𝓛 ended stayed clauses).post z))
    walk known z =
        let ends = z.0.0 in let shares = z.0.1 in let box = z.0.3.0 in let Post = (walk_of 𝓛 ended stayed clauses).post z in
        let Alive : Item 𝓤 = ‵ (flft ends.0 shares.0) ⊛ ‵ (flft ends.1.0 shares.1.0) ⊛ ‵ ftrue in
        let Outlives : Item 𝓤 = raw (fact 𝓤 (ends.0 ⊑ E.row.lives)) ⊛ raw (fact 𝓤 (ends.1.0 ⊑ E.al.row.lives)) ⊛ ‵ ftrue in
        qed 𝓛 ((Alive ⊛ ‵ (fsep ((B E).own_val box z.0.4.0) ftrue)) ∷ Outlives ∷ []) ∵
        split ! $ move ! (1 ∷ []) $ fsplit ! $
        -- the box's machine value, by which the function is entered
        box_out E ! box z.0.4.0 (λ block count handle at_block is_word fits. box_in E ! box block count box.value at_block refl $
        let word_of = word E handle block count in
        let Γ : List (Item 𝓤) = ‵ ((B E).own_val box (word_of ∷ [])) ∷ ‵ ftrue ∷ Alive ∷ Outlives ∷ [] in
        by ! (subst (λ (values : List Val). ent 𝓤 (types.Kit.⋆ 𝓛 Γ) (WpFn 𝓤 𝓛.H 𝓣.C 𝓣.Λ instance (values ++ []) Post)) (sym is_word)
        (qed 𝓛 Γ ∵ enter ! 𝓣.C 𝓣.Λ instance (word_of ∷ []) _ $
        alloc_all ! (λ ls. pass_all ! refl (box_typed E handle block count fits, tt) $
        sets ! (of_opd ! (get ! refl)) refl (box_typed E handle block count fits) $
        fjoin ! $ move ! (1 ∷ 0 ∷ []) $ join ! $ join ! $
        let passed : Called.Ghost = ((ends, shares, tt, (box, tt), (word_of ∷ [], tt)), tt) in
        use1 𝓛 (raw (Called.pre passed)) (id⊢ 𝓤 _) $
        -- into_raw_with_allocator(whole)
        calls_at ! (fm_of 𝓤 𝓛.H 𝓛.laws 𝓣) Called known passed (and_then ! (get ! refl) (no_more !)) (λ answer.
        use1 𝓛 (later (some (λ (pair : Ptr × E.al.row.Denot). (Alive ⊛ ‵ ((Tuple (RawPtr ∷ P E ∷ [])).own_val pair (answer ∷ [])))
        ⊛ some (λ (_ : (Unit {0} × (Unit {0} × Unit {0})) × Unit {0}). ‵ (fsep (fsep ftrue (fsep ftrue ftrue)) ftrue)
        ⊛ (raw (fact 𝓤 (pair.1 ≡ box.alloc)) ⊛ ‵ (box_owns (token E.al box.alloc) (R E) pair.0 box.value)))))) (id⊢ 𝓤 _) $
        await ! tt $ pick ! (λ pair. split ! $ move ! (1 ∷ []) $ pick ! (λ _. split3 ! $ drop ! $ heard ! (pair.1 ≡ box.alloc) (λ same.
        in_a_block ! pair.0 (λ p. box_owns (token E.al box.alloc) (R E) p box.value) (fst∗ 𝓤 (never 𝓤) (sem 𝓛 (token E.al box.alloc (bare (τ E)) null_ptr))) (λ block' count' at'.
        -- [what the box owned; the tokens with the pair; ..]
        move ! (1 ∷ []) $ split ! $ move ! (1 ∷ []) $ fpick ! (λ values. fsplit ! $ feq_l ! (λ is_pair. fsplit ! $ feq_l ! (λ is_pointer. fsplit ! $
        rewrite ! 0 (λ (alloc : E.al.row.Denot). ‵ (E.al.row.own_val alloc values.1.0)) same refl $
        handle_tells E.al ! box.alloc values.1.0 (λ handle' is_handle fits'.
        let pointed : List Val = vstruct (of_list (ptr_val (block_ptr block' count') ∷ handle' ∷ [])) ∷ [] in
        let boxed : D E = record { ptr = block_ptr block' count'; alloc = box.alloc; value = box.value } in
        let made : Made.Denot = record { at = block_ptr block' count'; alloc = box.alloc; held = box.value } in
        let typed = box_typed E handle' block' count' fits' in
        lands_as ! (ap only (is_pair ∙ (λ i. vstruct (of_list ((is_pointer ∙ ap (λ (p : Ptr). ptr_val p ∷ []) at') i ++ (is_handle i ++ []))) ∷ []))) refl typed $
        -- the tuple's parts, and the struct made of them
        sets ! (of_opd ! (get_in ! (fld ! refl (stop !)) (sub ! 0 refl (whole !)))) refl (tt, tt) $
        sets ! (of_opd ! (get_in ! (fld ! refl (stop !)) (sub ! 1 refl (whole !)))) refl fits' $
        sets ! (of_opd ! (get ! refl)) refl fits' $
        sets ! (agg ! (and_then ! (get ! refl) (and_then ! (get ! refl) (no_more !)))) refl typed $
        returns ! (look_at ! 0 refl) $ free_all ! refl $
        move ! (3 ∷ []) $ fsplit ! $ box_in E ! boxed block' count' box.value refl refl $
        use1 𝓛 (‵ (Made.own_val made (word E handle' block' count' ∷ []))) (id⊢ 𝓤 _) $ move ! (1 ∷ []) $ drop ! $
        suffices ! _ (ends_at 𝓛 ended stayed clauses z (word E handle' block' count') made ((tt, (tt, tt)), tt) (tt, tt)) $ says ! refl $
        nothing ! $ nothing ! $ fjoin ! $ join ! $ move ! (1 ∷ 0 ∷ []) $ join ! $ done !)))))))))))))

pub of_box_spec : {M : Type 1} → statement M
unfolding tables_of
of_box_spec 𝓤 𝓛 𝓜 𝓡 wired X Z laws_x laws_z g d dd glue allocator drops dropped =
    let E : Bx = record { row = X; laws = laws_x; al = record { row = Z; laws = laws_z; g = g; d = d; drops = dd } } in
    let 𝓣 : Tables 𝓤 𝓛.H = tables_of 𝓤 𝓛.H 𝓜 (tables 𝓤 𝓛.H 𝓜 𝓡 𝓡.env) in
    let runs = WpFn 𝓤 𝓛.H 𝓣.C 𝓣.Λ (instance E glue) in
    let met = callee_met.met 𝓤 𝓛 𝓜 𝓡 (code.calls-std_alloc::boxed::Box::into_raw_with_allocator 𝓡.env wired) X Z laws_x laws_z g d dd glue allocator drops dropped in
    entered 𝓤 𝓛.H (triple_of 𝓛 (ended E glue).signature (f.spec X Z g d dd glue 𝓛 𝓜.mem 𝓡.returns)) 𝓣.C 𝓣.Λ (own_name (at_types E glue)) (instance E glue)
    (code.unfolded 𝓤 𝓛.H 𝓜 𝓡 wired (X, (Z, tt)) d dd glue)
    (walk_Meets 𝓛 (ended E glue) (stayed E glue) (Goes-blank 𝓛 2 (given E glue) no (λ κs x w. tt), tt) (clauses E glue 𝓛 𝓜.mem 𝓡.returns 𝓣) runs
    (WpFn-mono 𝓤 𝓛.H 𝓛.laws 𝓣 (instance E glue)) (walk E glue 𝓛 𝓜.mem 𝓡.returns 𝓣 met))
