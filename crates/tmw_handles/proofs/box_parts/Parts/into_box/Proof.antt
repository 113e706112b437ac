-- The call takes a pointer, an allocator and what the parts own, and gives a box.
use Rattle.tmw_handles.proofs.Steps.{ !, B, Body, Bx, Clauses, Contract, D, Ended, Fn, Fun, Goes-blank, Item, List, Logic, Memory, P, R, Routine, SProp, Slot, Stays, Tables, Triple, Ura, Val, WT, WpFn, WpFn-mono, [], alloc_all, and_then, ap, args, assign, at_ret, await, block_ptr, blocks, box_in, box_out, box_owns, box_ty, box_typed, by, calls_at_last, copy, done, drop, ends_at, ent, enter, entered, env, exec, fact, feq_i, first, fjoin, fld, flft, fm_of, free_all, fsep, fsplit, ftrue, get, get_in, has_ty, heard, id⊢, inst_fn, join, lands_last, later, look_at, move, no, no_more, nothing, of_opd, only, pass_all, pick, place, plain, qed, raw, refl, return, returns, rewrite, rv_opd, says, seq, sets, some, split, split3, stay_dropped, stop, sub, subst, suffices, sym, tables, tables_of, token, triple_of, use1, vptr, walk_Meets, walk_of, whole, word, ‵, ◌$◌, ◌++◌, ◌∵◌, ◌∷◌, ◌≡◌, ◌⊑◌, ◌⊛◌}
use lib.Dec.{T}
use Rattle.std_alloc.specs.contracts.boxed.Box.from_raw as callee
use Rattle.std_alloc.proofs.boxed.Box.from_raw.Met as callee_met
use Rattle.std_alloc.proofs.boxed.Box.from_raw.Symbol as callee_symbol
use Rattle.tmw_handles.specs.contracts.box_parts.Parts as Parts
use Rattle.tmw_handles.specs.contracts.box_parts.Parts.into_box as f
use Rattle.tmw_handles.specs.contracts.box_parts.Parts.into_box.Key.{name as own_name}
use Rattle.tmw_handles.proofs.box_parts.Parts.into_box.Code as code
use Rattle.tmw_handles.proofs.box_parts.Parts.into_box.Statement.{statement}

-- what runs behind the unsafe block
abbrev behind : Body
behind = seq (assign (place 0 []) (rv_opd (copy (place 4 [])))) return

module _ (E : Bx) where
  abbrev instance : Fn
  instance = inst_fn (args E) code.function

  abbrev ended : Ended
  ended = f.ended E.row E.al.row E.al.g E.al.d E.al.drops

  abbrev given : Slot 2
  given = plain (λ _. Parts.the_row (R E) (P E) E.al.g)

  abbrev stayed : Stays ended.signature.params ended.kept
  stayed = (stay_dropped given no, tt)

  module _ {M : Type 1} {𝓤 : Ura M} (𝓛 : Logic 𝓤) (at_mem : Memory → SProp 𝓤) (run : Routine → Fun 𝓤) (𝓣 : Tables 𝓤 𝓛.H) where
    abbrev clauses : Clauses 𝓤 ended
    clauses = f.clauses E.row E.al.row E.al.g E.al.d E.al.drops 𝓛 at_mem run

    abbrev Called : Contract 𝓤
    Called = triple_of 𝓛 (callee.signature E.row E.al.row E.al.g E.al.d E.al.drops) (callee.spec E.row E.al.row E.al.g E.al.d E.al.drops 𝓛 at_mem run)

    walk : Triple 𝓤 (𝓣.C (callee_symbol.name (args E))) Called → (z : (walk_of 𝓛 ended stayed clauses).Ghost)
        → ent 𝓤 ((walk_of 𝓛 ended stayed clauses).pre z) (WpFn 𝓤 𝓛.H 𝓣.C 𝓣.Λ instance (z.0.4.0 ++ []) ((walk_of 𝓛 ended stayed clauses).post z))
    walk known z =
        let ends = z.0.0 in let shares = z.0.1 in let alloc = z.0.3.0.alloc in let value = z.0.3.0.held in
        let Post = (walk_of 𝓛 ended stayed clauses).post z in
        let parts : D E = record { ptr = z.0.3.0.at; alloc = alloc; value = value } in
        let Alive : Item 𝓤 = ‵ (flft ends.0 shares.0) ⊛ ‵ (flft ends.1.0 shares.1.0) ⊛ ‵ ftrue in
        let Element : Item 𝓤 = raw (fact 𝓤 (ends.0 ⊑ E.row.lives)) in let Handle : Item 𝓤 = raw (fact 𝓤 (ends.1.0 ⊑ E.al.row.lives)) in
        qed 𝓛 ((Alive ⊛ ‵ (fsep ((B E).own_val parts z.0.4.0) ftrue)) ∷ (Element ⊛ Handle ⊛ ‵ ftrue) ∷ []) ∵
        split ! $ move ! (1 ∷ []) $ fsplit ! $
        box_out E ! parts z.0.4.0 (λ block count handle at_block is_word fits. fjoin ! $
        let entered_by = word E handle block count in
        let passed : Called.Ghost = ((ends, shares, tt, (alloc, (block_ptr block count, tt)), (handle ∷ [], (vptr block count ∷ [], tt))), value) in
        let Γ : List (Item 𝓤) = ‵ (box_owns (token E.al alloc) (R E) (block_ptr block count) value) ∷ ‵ ((P E).own_val alloc (handle ∷ [])) ∷ ‵ ftrue ∷ Alive ∷ (Element ⊛ Handle ⊛ ‵ ftrue) ∷ [] in
        by ! (subst (λ (values : List Val). ent 𝓤 (types.Kit.⋆ 𝓛 Γ) (WpFn 𝓤 𝓛.H 𝓣.C 𝓣.Λ instance (values ++ []) Post)) (sym is_word)
        (qed 𝓛 Γ ∵ enter ! 𝓣.C 𝓣.Λ instance (entered_by ∷ []) _ $
        alloc_all ! (λ ls. pass_all ! refl (box_typed E handle block count fits, tt) $
        sets ! (of_opd ! (get_in ! (fld ! refl (stop !)) (sub ! 0 refl (whole !)))) refl (tt, tt) $
        sets ! (of_opd ! (get_in ! (fld ! refl (stop !)) (sub ! 1 refl (whole !)))) refl fits $
        first ! $ blocks ! $ sets ! (of_opd ! (get ! refl)) refl fits $
        -- what the call takes: the tokens, the pointer and the allocator, and what is owned
        move ! (4 ∷ []) $ split3 ! $ move ! (2 ∷ []) $ drop ! $ move ! (1 ∷ 2 ∷ []) $ join ! $ move ! (1 ∷ 0 ∷ []) $ join ! $
        move ! (2 ∷ []) $ feq_i ! (List Val) (vptr block count ∷ []) (vptr block count ∷ []) refl $ fjoin ! $ move ! (2 ∷ 0 ∷ []) $ fjoin ! $ move ! (2 ∷ 0 ∷ []) $ join ! $ join ! $
        use1 𝓛 (raw (Called.pre passed)) (id⊢ 𝓤 _) $
        -- Box::from_raw(alloc, at)
        calls_at_last ! (fm_of 𝓤 𝓛.H 𝓛.laws 𝓣) Called known passed (and_then ! (get ! refl) (and_then ! (get ! refl) (no_more !))) (λ answer.
        use1 𝓛 (later (some (λ (made : D E). (Alive ⊛ ‵ ((B E).own_val made (answer ∷ [])))
        ⊛ some (λ (_ : Unit {0} × (Unit {0} × Unit {0})). ‵ (fsep ftrue (fsep ftrue ftrue)) ⊛ (raw (fact 𝓤 (made.value ≡ value)) ⊛ raw (fact 𝓤 (made.alloc ≡ alloc))))))) (id⊢ 𝓤 _) $
        await ! tt $ pick ! (λ made. split ! $ move ! (1 ∷ []) $ pick ! (λ _. split3 ! $ drop ! $ heard ! (made.value ≡ value) (λ same. drop ! $ split ! $ move ! (1 ∷ []) $
        box_out E ! made (answer ∷ []) (λ block' count' handle' at' is_answer fits'. box_in E ! made block' count' made.value at' refl $
        rewrite ! 0 (λ (values : List Val). ‵ ((B E).own_val made values)) (sym is_answer) refl $
        let typed : T (has_ty (box_ty E) answer) × WT answer =
        subst (λ (v : Val). T (has_ty (box_ty E) v) × WT v) (sym (ap only is_answer)) (box_typed E handle' block' count' fits') in
        lands_last ! refl typed $ exec ! 𝓣.C 𝓣.Λ (env instance.locals ls) behind (at_ret (env instance.locals ls) Post) $
        sets ! (of_opd ! (get ! refl)) refl typed $ returns ! (look_at ! 0 refl) $ free_all ! refl $
        suffices ! _ (ends_at 𝓛 ended stayed clauses z answer made ((tt, (tt, tt)), tt) (tt, tt)) $ says ! same $
        nothing ! $ nothing ! $ fjoin ! $ join ! $ move ! (1 ∷ 0 ∷ []) $ join ! $ done !)))))))))

pub into_box_spec : {M : Type 1} → statement M
unfolding tables_of
into_box_spec 𝓤 𝓛 𝓜 𝓡 wired X Z laws_x laws_z g d dd allocator drops =
    let E : Bx = record { row = X; laws = laws_x; al = record { row = Z; laws = laws_z; g = g; d = d; drops = dd } } in
    let 𝓣 : Tables 𝓤 𝓛.H = tables_of 𝓤 𝓛.H 𝓜 (tables 𝓤 𝓛.H 𝓜 𝓡 𝓡.env) in
    let runs = WpFn 𝓤 𝓛.H 𝓣.C 𝓣.Λ (instance E) in
    let met = callee_met.met 𝓤 𝓛 𝓜 𝓡 (code.calls-std_alloc::boxed::Box::from_raw 𝓡.env wired) X Z laws_x laws_z g d dd allocator drops in
    entered 𝓤 𝓛.H (triple_of 𝓛 (ended E).signature (f.spec X Z g d dd 𝓛 𝓜.mem 𝓡.returns)) 𝓣.C 𝓣.Λ (own_name (args E)) (instance E)
    (code.unfolded 𝓤 𝓛.H 𝓜 𝓡 wired (X, (Z, tt)) d dd)
    (walk_Meets 𝓛 (ended E) (stayed E) (Goes-blank 𝓛 2 (given E) no (λ κs x w. tt), tt) (clauses E 𝓛 𝓜.mem 𝓡.returns 𝓣) runs
    (WpFn-mono 𝓤 𝓛.H 𝓛.laws 𝓣 (instance E)) (walk E 𝓛 𝓜.mem 𝓡.returns 𝓣 met))
