-- The list that `new` makes has no item.
use Rattle.tmw_cuts.proofs.Steps.{ !, Calls, Ended, Fn, Fun, Lfts, ListOf, Logic, Loops, Meets, Memory, RattleType, Routine, SProp, Shares, Stays, Tables, Ura, WpFn, WpFn-mono, [], agg, alive, alloc_all, and_then, args, done, empty, ends_at, ent, enter, entered, free_all, fst∗, get, inst_fn, look_at, move, no_more, on_entry, owns, param, pass_all, pure_i, qed, raw, refl, returns, says, sets, suffices, tables, tables_of, triple_of, via, vnil, vstruct, walk_Meets, walk_of, walked, ‵, ◌$◌, ◌∵◌, ◌∷◌}
use Rattle.tmw_cuts.specs.contracts.ghost_list.GhostList.new as f
use Rattle.tmw_cuts.specs.contracts.ghost_list.GhostList.new.Key.{name as key}
use Rattle.tmw_cuts.proofs.ghost_list.GhostList.new.Code as code
use Rattle.tmw_cuts.proofs.ghost_list.GhostList.new.Statement.{statement}

module _ (T : RattleType) where
  abbrev function : Fn
  function = inst_fn (args T) code.function

  abbrev ended : Ended
  ended = f.ended T

  abbrev stayed : Stays ended.signature.params ended.kept
  stayed = tt

  module _ {M : Type 1} {𝓤 : Ura M} (𝓛 : Logic 𝓤) (mem : Memory → SProp 𝓤) (run : Routine → Fun 𝓤) where
    open 𝓛 use {H}

    walk : (C : Calls 𝓤 H) (Λ : Loops 𝓤 H) (κs : Lfts 1) (qs : Shares 1) → ent 𝓤 (on_entry 𝓛 ended.signature κs qs tt tt)
        (WpFn 𝓤 H C Λ function [] ((walk_of 𝓛 ended stayed (f.clauses T 𝓛 mem run)).post ((κs, qs, tt, tt, tt), tt)))
    walk C Λ κs qs =
        qed 𝓛 (raw (alive 𝓛 ended.signature κs qs) ∷ ‵ (owns [] tt tt) ∷ []) ∵ enter ! C Λ function [] _ $
        alloc_all ! (λ l. pass_all ! refl tt $ sets ! (agg ! (no_more !)) refl (tt, tt) $
        sets ! (agg ! (and_then ! (get ! refl) (no_more !))) refl (tt, (tt, tt)) $ returns ! (look_at ! 0 refl) $ free_all ! refl $
        suffices ! _ (ends_at 𝓛 ended stayed (f.clauses T 𝓛 mem run) ((κs, qs, tt, tt, tt), tt) empty (record { of = record {}; items = [] }) tt tt) $
        says ! refl $ pure_i ! ((ListOf (param 0 T)).own_val (record { of = record {}; items = [] }) (empty ∷ []))
        ((λ vss. (tt, ((λ uss. (tt, tt)), tt))), tt) (((vstruct vnil ∷ [], tt), (refl, ((tt, (refl, tt)), tt))), tt) $
        move ! (1 ∷ 2 ∷ 0 ∷ []) $ done !)

    meets : (𝓣 : Tables 𝓤 H) → Meets 𝓛 ended.signature (WpFn 𝓤 H 𝓣.C 𝓣.Λ function) (f.spec T 𝓛 mem run)
    meets 𝓣 =
        walk_Meets 𝓛 ended stayed tt (f.clauses T 𝓛 mem run) (WpFn 𝓤 H 𝓣.C 𝓣.Λ function) (WpFn-mono 𝓤 H 𝓛.laws 𝓣 function)
        (walked 𝓛 ended stayed (f.clauses T 𝓛 mem run) (WpFn 𝓤 H 𝓣.C 𝓣.Λ function) (λ κs. tt) (λ κs. tt)
        (λ κs qs bounds a g are. via 𝓤 _ (fst∗ 𝓤 _ ((f.clauses T 𝓛 mem run κs a).requires g)) (walk 𝓣.C 𝓣.Λ κs qs)))

pub new_spec : {M : Type 1} → statement M
unfolding tables_of
new_spec 𝓤 𝓛 𝓜 𝓡 wired T laws =
    let 𝓣 : Tables 𝓤 𝓛.H = tables_of 𝓤 𝓛.H 𝓜 (tables 𝓤 𝓛.H 𝓜 𝓡 𝓡.env) in
    entered 𝓤 𝓛.H (triple_of 𝓛 (ended T).signature (f.spec T 𝓛 𝓜.mem 𝓡.returns)) 𝓣.C 𝓣.Λ (key (args T)) (function T)
    (code.unfolded 𝓤 𝓛.H 𝓜 𝓡 wired (T, tt)) (meets T 𝓛 𝓜.mem 𝓡.returns 𝓣)
