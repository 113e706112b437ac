-- The functions of a slot, whatever it holds: what a box owns goes between a slot and a box's parts.
use Rattle.tmw_handles.proofs.Steps.{ !, B, Bx, Clauses, D, Ended, Fn, Goes-dropped, IsSome, Item, List, Logic, None, Option, P, Ptr, R, RattleType, SProp, Some, Stays, Tables, Ura, Val, WpFn, WpFn-mono, [], agg, alloc_all, and_then, assign, box_in, box_out, box_typed, by, copy, done, drop, emp, ends_at, ent, enter, fact, fjoin, fld, free_all, fsep, fsplit, ftrue, get, get_in, heard, id⊢, join, look_at, move, no_more, nothing, of_opd, pass_all, place, plain, qed, raw, refl, return, returns, rv_opd, says, sem, seq, sets, split, stay_dropped, stop, sub, subst, suffices, sym, use1, walk_Meets, walk_of, whole, word, yes, ‵, ⋆, ◌$◌, ◌++◌, ◌∵◌, ◌∷◌, ◌≡◌, ◌⊛◌}
use Prim.Native.Nat.{ℕ}
use denote.Exit.{Last}
use denote.Triple.Clauses.{closing}
use denote.Triple.Spec.{Meets}
use denote.Triple.Walked.{Silent}
use mir.Syntax.{Ty, aggregate, field, local, tcons, tnil, ty_ptr, ty_struct, value_local}
use Rattle.std.proofs.alloc.Calls.{α}
use Rattle.tmw_handles.specs.contracts.box_parts.Parts as Parts
use Rattle.tmw_handles.proofs.AsBoxes.{none_is_some}

-- The code that makes of a struct of a pointer and an allocator another one: each is moved, and the pointer is cast.
abbrev pub recast : Bx → List ℕ → List ℕ → Fn
recast E from to =
    let pair : List ℕ → Ty = λ name. ty_struct name (tcons ty_ptr (tcons (α E.al) tnil)) in record {
      lifetimes = 0;
      outlives = [];
      ty_params = [];
      givens = 0;
      params = 1;
      locals = local (pair to) value_local ∷ local (pair from) value_local ∷ local ty_ptr value_local ∷ local (α E.al) value_local
          ∷ local ty_ptr value_local ∷ [];
      body = seq (assign (place 2 []) (rv_opd (copy (place 1 (field 0 ∷ []))))) (seq (assign (place 3 []) (rv_opd (copy (place 1 (field 1 ∷ [])))))
          (seq (assign (place 4 []) (rv_opd (copy (place 2 []))))
          (seq (assign (place 0 []) (aggregate (copy (place 4 []) ∷ copy (place 3 []) ∷ []))) return)));
    }

module _ (E : Bx) (from to : List ℕ) {M : Type 1} {𝓤 : Ura M} (𝓛 : Logic 𝓤) (𝓣 : Tables 𝓤 𝓛.H) where
  -- It ends with the words that it is called with.
  recast_runs : (given : D E) (words : List Val) (ended : Val → SProp 𝓤)
      → ((bits : Val) → ent 𝓤 (⋆ 𝓛 (‵ ((B E).own_val given (bits ∷ [])) ∷ [])) (ended bits))
      → ent 𝓤 (⋆ 𝓛 (‵ ((B E).own_val given words) ∷ [])) (WpFn 𝓤 𝓛.H 𝓣.C 𝓣.Λ (recast E from to) (words ++ []) ended)
  recast_runs given words ended ends =
      qed 𝓛 (‵ ((B E).own_val given words) ∷ []) ∵ box_out E ! given words (λ block count handle leads stored fits.
      let bits = word E handle block count in
      let owned : Item 𝓤 = ‵ ((B E).own_val given (bits ∷ [])) in
      box_in E ! given block count given.value leads refl $ use1 𝓛 owned (id⊢ 𝓤 _) $
      by ! (subst (λ (us : List Val). ent 𝓤 (⋆ 𝓛 (owned ∷ [])) (WpFn 𝓤 𝓛.H 𝓣.C 𝓣.Λ (recast E from to) (us ++ []) ended)) (sym stored)
      (qed 𝓛 (owned ∷ []) ∵ enter ! 𝓣.C 𝓣.Λ (recast E from to) (bits ∷ []) _ $
      alloc_all ! (λ locals. pass_all ! refl (box_typed E handle block count fits, tt) $
      sets ! (of_opd ! (get_in ! (fld ! refl (stop !)) (sub ! 0 refl (whole !)))) refl (tt, tt) $
      sets ! (of_opd ! (get_in ! (fld ! refl (stop !)) (sub ! 1 refl (whole !)))) refl fits $
      -- the cast
      sets ! (of_opd ! (get ! refl)) refl (tt, tt) $
      sets ! (agg ! (and_then ! (get ! refl) (and_then ! (get ! refl) (no_more !)))) refl (box_typed E handle block count fits) $
      returns ! (look_at ! 0 refl) $ free_all ! refl $ by ! (ends bits)))))

-- A function from one row to another, by which what a box owns goes over.
module _ (From To : RattleType) where
  abbrev pub over : Ended
  over = record {
    signature = record { lifetimes = 0; outlives = []; params = plain (λ _. From) ∷ []; result = plain (λ _. To) };
    kept = (yes, tt);
  }

  abbrev pub stayed : Stays over.signature.params over.kept
  stayed = (stay_dropped (plain (λ _. From)) yes, tt)

abbrev pub Boxed : Bx → RattleType
Boxed E = Parts.the_row (R E) (P E) E.al.g

-- A slot of this row holds what it holds.
module _ (E : Bx) (from to : List ℕ) (Row : RattleType) (held : Row.Denot → Option E.row.Denot)
    {M : Type 1} {𝓤 : Ura M} (𝓛 : Logic 𝓤) (𝓣 : Tables 𝓤 𝓛.H) where
  -- A slot is made of parts.
  module _ (last : (parts : (Boxed E).Denot) → Last ((Boxed E).exit yes) parts) (made : D E → Row.Denot) (holds : (given : D E) → held (made given) ≡ Some given.value)
      (owns : (given : D E) (us : List Val) → ent 𝓤 (sem 𝓛 ((B E).own_val given us)) (sem 𝓛 (Row.own_val (made given) us))) where
    abbrev of_clauses : Clauses 𝓤 (over (Boxed E) Row)
    of_clauses κs args = record { ghost = Unit {0}; requires = λ _. emp 𝓤; ensures = λ _ slot _. fact 𝓤 (held slot ≡ Some args.0.held) }

    of_walk : (call : (walk_of 𝓛 (over (Boxed E) Row) (stayed (Boxed E) Row) of_clauses).Ghost)
        → ent 𝓤 ((walk_of 𝓛 (over (Boxed E) Row) (stayed (Boxed E) Row) of_clauses).pre call)
        (WpFn 𝓤 𝓛.H 𝓣.C 𝓣.Λ (recast E from to) (call.0.4.0 ++ []) ((walk_of 𝓛 (over (Boxed E) Row) (stayed (Boxed E) Row) of_clauses).post call))
    of_walk call =
        let parts = call.0.3.0 in
        let given : D E = record { ptr = parts.at; alloc = parts.alloc; value = parts.held } in
        qed 𝓛 ((‵ ftrue ⊛ ‵ (fsep ((B E).own_val given call.0.4.0) ftrue)) ∷ raw (emp 𝓤) ∷ []) ∵
        split ! $ drop ! $ fsplit ! $ move ! (1 ∷ 2 ∷ []) $ drop ! $ drop ! $
        by ! (recast_runs E from to 𝓛 𝓣 given call.0.4.0 ((walk_of 𝓛 (over (Boxed E) Row) (stayed (Boxed E) Row) of_clauses).post call) (λ bits.
        qed 𝓛 (‵ ((B E).own_val given (bits ∷ [])) ∷ []) ∵ use1 𝓛 (‵ (Row.own_val (made given) (bits ∷ []))) (owns given (bits ∷ [])) $
        suffices ! _ (ends_at 𝓛 (over (Boxed E) Row) (stayed (Boxed E) Row) of_clauses call bits (made given) (last parts, tt) (tt, tt)) $
        says ! (holds given) $ nothing ! $ nothing ! $ fjoin ! $ join ! $ nothing ! $ join ! $ done !))

    pub of_meets : Silent 𝓛 0 (plain (λ _. Boxed E)) yes
        → Meets 𝓛 (over (Boxed E) Row).signature (WpFn 𝓤 𝓛.H 𝓣.C 𝓣.Λ (recast E from to)) (closing 𝓛 (over (Boxed E) Row) of_clauses)
    of_meets silent =
        walk_Meets 𝓛 (over (Boxed E) Row) (stayed (Boxed E) Row) (Goes-dropped 𝓛 0 (plain (λ _. Boxed E)) yes silent, tt) of_clauses
        (WpFn 𝓤 𝓛.H 𝓣.C 𝓣.Λ (recast E from to)) (WpFn-mono 𝓤 𝓛.H 𝓛.laws 𝓣 (recast E from to)) of_walk

  -- Parts are made of a slot that holds something.
  module _ (last : (slot : Row.Denot) → Last (Row.exit yes) slot) (at : Row.Denot → Ptr) (alloc : Row.Denot → E.al.row.Denot)
      (owns : (slot : Row.Denot) (value : E.row.Denot) (us : List Val) → held slot ≡ Some value → ent 𝓤 (sem 𝓛 (Row.own_val slot us))
      (sem 𝓛 ((B E).own_val (record { ptr = at slot; alloc = alloc slot; value = value }) us))) where
    abbrev into_clauses : Clauses 𝓤 (over Row (Boxed E))
    into_clauses κs args = record {
      ghost = Unit {0};
      requires = λ _. fact 𝓤 (IsSome (held args.0));
      ensures = λ _ parts _. fact 𝓤 (held args.0 ≡ Some parts.held);
    }

    into_walk : (found : Option E.row.Denot) (call : (walk_of 𝓛 (over Row (Boxed E)) (stayed Row (Boxed E)) into_clauses).Ghost)
        → held call.0.3.0 ≡ found → ent 𝓤 ((walk_of 𝓛 (over Row (Boxed E)) (stayed Row (Boxed E)) into_clauses).pre call)
        (WpFn 𝓤 𝓛.H 𝓣.C 𝓣.Λ (recast E from to) (call.0.4.0 ++ []) ((walk_of 𝓛 (over Row (Boxed E)) (stayed Row (Boxed E)) into_clauses).post call))
    into_walk None call is =
        let slot = call.0.3.0 in
        qed 𝓛 ((‵ ftrue ⊛ ‵ (fsep (Row.own_val slot call.0.4.0) ftrue)) ∷ raw (fact 𝓤 (IsSome (held slot))) ∷ []) ∵
        move ! (1 ∷ []) $ heard ! (IsSome (held slot)) (λ some. absurd (none_is_some (held slot) is some))
    into_walk (Some value) call is =
        let slot = call.0.3.0 in
        let given : D E = record { ptr = at slot; alloc = alloc slot; value = value } in
        let parts : (Boxed E).Denot = record { at = given.ptr; alloc = given.alloc; held = value } in
        qed 𝓛 ((‵ ftrue ⊛ ‵ (fsep (Row.own_val slot call.0.4.0) ftrue)) ∷ raw (fact 𝓤 (IsSome (held slot))) ∷ []) ∵
        split ! $ drop ! $ fsplit ! $ move ! (1 ∷ 2 ∷ []) $ drop ! $ drop ! $
        use1 𝓛 (‵ ((B E).own_val given call.0.4.0)) (owns slot value call.0.4.0 is) $
        by ! (recast_runs E from to 𝓛 𝓣 given call.0.4.0 ((walk_of 𝓛 (over Row (Boxed E)) (stayed Row (Boxed E)) into_clauses).post call) (λ bits.
        qed 𝓛 (‵ ((B E).own_val given (bits ∷ [])) ∷ []) ∵ use1 𝓛 (‵ ((Boxed E).own_val parts (bits ∷ []))) (id⊢ 𝓤 _) $
        suffices ! _ (ends_at 𝓛 (over Row (Boxed E)) (stayed Row (Boxed E)) into_clauses call bits parts (last slot, tt) (tt, tt)) $
        says ! is $ nothing ! $ nothing ! $ fjoin ! $ join ! $ nothing ! $ join ! $ done !))

    pub into_meets : Silent 𝓛 0 (plain (λ _. Row)) yes
        → Meets 𝓛 (over Row (Boxed E)).signature (WpFn 𝓤 𝓛.H 𝓣.C 𝓣.Λ (recast E from to)) (closing 𝓛 (over Row (Boxed E)) into_clauses)
    into_meets silent =
        walk_Meets 𝓛 (over Row (Boxed E)) (stayed Row (Boxed E)) (Goes-dropped 𝓛 0 (plain (λ _. Row)) yes silent, tt) into_clauses
        (WpFn 𝓤 𝓛.H 𝓣.C 𝓣.Λ (recast E from to)) (WpFn-mono 𝓤 𝓛.H 𝓛.laws 𝓣 (recast E from to)) (λ call. into_walk (held call.0.3.0) call refl)
