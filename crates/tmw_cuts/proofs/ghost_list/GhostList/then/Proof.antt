-- The list that `then` makes has one item more, if one was given.
use Rattle.tmw_cuts.proofs.Steps.{ !, Calls, Ended, Fn, Fun, Lfts, ListOf, Logic, Loops, Meets, Memory, RattleType, Routine, SProp, Shares, Stays, Tables, Ura, WpFn, WpFn-mono, [], agg, alive, alloc_all, and_then, args, done, empty, ends_at, ent, enter, entered, free_all, fst∗, get, inst_fn, look_at, move, no_more, on_entry, owns, param, pass_all, pure_i, qed, raw, refl, returns, says, sets, suffices, tables, tables_of, triple_of, via, vnil, vstruct, walk_Meets, walk_of, walked, ‵, ◌$◌, ◌∵◌, ◌∷◌}
use contract.Lifetimes.{AllOutlive}
use denote.Exit.{yes}
use denote.Ref.{shr_vals, shr_Tells}
use denote.Signature.{Slot, plain, types_at}
use denote.Triple.Entry.{Args as Given}
use denote.Triple.Walked.{Goes-none_ref, stay_none_ref}
use mathlib.Core.List.{◌++◌}
use mir.Syntax.{named}
use mir.Val.{Val, vptr}
use Rattle.std.specs.Option.{option_to_list}
use Rattle.std.specs.contracts.option.Option.{the_row as OptionOf}
use Rattle.tmw_cuts.specs.contracts.ghost_list.GhostList.then as f
use Rattle.tmw_cuts.specs.contracts.ghost_list.GhostList.then.Key.{name as key}
use Rattle.tmw_cuts.proofs.ghost_list.GhostList.then.Code as code
use Rattle.tmw_cuts.proofs.ghost_list.GhostList.then.Statement.{statement}

module _ (T : RattleType) where
  abbrev function : Fn
  function = inst_fn (args T) code.function

  abbrev ended : Ended
  ended = f.ended T

  abbrev list : Slot 3
  list = plain (λ _. ListOf (param 0 T))

  abbrev given : Slot 3
  given = plain (λ _. OptionOf (param 0 T))

  abbrev stayed : Stays ended.signature.params ended.kept
  stayed = (stay_none_ref (0 ∷ []) tt list yes, (stay_none_ref (1 ∷ []) tt given yes, tt))

  module _ {M : Type 1} {𝓤 : Ura M} (𝓛 : Logic 𝓤) (mem : Memory → SProp 𝓤) (run : Routine → Fun 𝓤) where
    open 𝓛 use {H}

    walk : (C : Calls 𝓤 H) (Λ : Loops 𝓤 H) (κs : Lfts 3) (qs : Shares 3) (bounds : AllOutlive 3 ended.signature.outlives κs)
        (a : Given ended.signature κs) → let p : Val = vptr a.0.ref_ptr.0 a.0.ref_ptr.1 in let q : Val = vptr a.1.0.ref_ptr.0 a.1.0.ref_ptr.1 in
        ent 𝓤 (on_entry 𝓛 ended.signature κs qs a (p ∷ [], (q ∷ [], tt)))
        (WpFn 𝓤 H C Λ function (p ∷ q ∷ []) ((walk_of 𝓛 ended stayed (f.clauses T 𝓛 mem run)).post ((κs, qs, bounds, a, (p ∷ [], (q ∷ [], tt))), tt)))
    walk C Λ κs qs bounds a =
        let p : Val = vptr a.0.ref_ptr.0 a.0.ref_ptr.1 in let q : Val = vptr a.1.0.ref_ptr.0 a.1.0.ref_ptr.1 in
        let made : (ListOf (param 0 T)).Denot = record { of = record {}; items = a.0.now.items ++ option_to_list a.1.0.now } in
        qed 𝓛 (raw (alive 𝓛 ended.signature κs qs) ∷ ‵ (owns (types_at ended.signature.params κs) a (p ∷ [], (q ∷ [], tt))) ∷ []) ∵
        enter ! C Λ function (p ∷ q ∷ []) _ $
        alloc_all ! (λ l. pass_all ! refl ((tt, tt), ((tt, tt), tt)) $ sets ! (agg ! (no_more !)) refl (tt, tt) $
        sets ! (agg ! (and_then ! (get ! refl) (no_more !))) refl (tt, (tt, tt)) $ returns ! (look_at ! 0 refl) $ free_all ! refl $
        suffices ! _ (ends_at 𝓛 ended stayed (f.clauses T 𝓛 mem run) ((κs, qs, bounds, a, (p ∷ [], (q ∷ [], tt))), tt) empty made (tt, (tt, tt)) (tt, (tt, tt))) $
        says ! refl $ pure_i ! ((ListOf (param 0 T)).own_val made (empty ∷ []))
        ((λ vss. (tt, ((λ uss. (tt, tt)), tt))), tt) (((vstruct vnil ∷ [], tt), (refl, ((tt, (refl, tt)), tt))), tt) $
        move ! (1 ∷ 2 ∷ 0 ∷ []) $ done !)

    meets : (𝓣 : Tables 𝓤 H) → Meets 𝓛 ended.signature (WpFn 𝓤 H 𝓣.C 𝓣.Λ function) (f.spec T 𝓛 mem run)
    meets 𝓣 =
        walk_Meets 𝓛 ended stayed (Goes-none_ref 𝓛 3 (0 ∷ []) tt list yes, (Goes-none_ref 𝓛 3 (1 ∷ []) tt given yes, tt)) (f.clauses T 𝓛 mem run)
        (WpFn 𝓤 H 𝓣.C 𝓣.Λ function) (WpFn-mono 𝓤 H 𝓛.laws 𝓣 function)
        (walked 𝓛 ended stayed (f.clauses T 𝓛 mem run) (WpFn 𝓤 H 𝓣.C 𝓣.Λ function) (λ κs. (shr_vals, (shr_vals, tt)))
        (λ κs. (shr_Tells (named 0) κs.0 (ListOf (param 0 T)), (shr_Tells (named 1) κs.1.0 (OptionOf (param 0 T)), tt)))
        (λ κs qs bounds a g are. via 𝓤 _ (fst∗ 𝓤 _ ((f.clauses T 𝓛 mem run κs a).requires g)) (walk 𝓣.C 𝓣.Λ κs qs bounds a)))

pub then_spec : {M : Type 1} → statement M
unfolding tables_of
then_spec 𝓤 𝓛 𝓜 𝓡 wired T laws =
    let 𝓣 : Tables 𝓤 𝓛.H = tables_of 𝓤 𝓛.H 𝓜 (tables 𝓤 𝓛.H 𝓜 𝓡 𝓡.env) in
    entered 𝓤 𝓛.H (triple_of 𝓛 (ended T).signature (f.spec T 𝓛 𝓜.mem 𝓡.returns)) 𝓣.C 𝓣.Λ (key (args T)) (function T)
    (code.unfolded 𝓤 𝓛.H 𝓜 𝓡 wired (T, tt)) (meets T 𝓛 𝓜.mem 𝓡.returns 𝓣)
