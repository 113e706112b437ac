-- What follows a cut, as a history of its own, and the whole.
use Rattle.tmw_window.proofs.Shared.{Criterion, Event, HasWide, IsCutAt, IsFinalBy, IsTrue, List, State, Txn, [], and_parts, ap, arith, cut_law, drop, drop-append-add, final-outcome, inl, inr, is_cut, is_cut-append, is_text, is_well_formed, length, length-append, list_all, list_all-append, outcome-final, outcomes_by, refl, subst, sym, take, take-append-add, transactions, ℕ, ◌&&◌, ◌++◌, ◌+◌, ◌-◌, ◌<◌, ◌↔◌, ◌∙◌, ◌∷◌, ◌≡◌}
use Rattle.tmw_defs.proofs.Along.{Pairs}
use Rattle.tmw_defs.proofs.CutsProof.{behind, behind-later, transactions-cut}
use Rattle.tmw_defs.proofs.Places.{IsLater}

-- it is well-formed where the whole is
formed-later : (registers n : ℕ) (ts us : List Txn) → Pairs (IsLater n) ts us
    → list_all (λ t. is_text registers t.text) ts ≡ list_all (λ t. is_text registers t.text) us
formed-later registers n [] [] pairs = refl
formed-later registers n [] (u ∷ us) pairs = absurd pairs
formed-later registers n (t ∷ ts) [] pairs = absurd pairs
formed-later registers n (t ∷ ts) (u ∷ us) pairs = cc (formed-later registers n ts us pairs.1)

pub formed-append : (registers : ℕ) (past rest : List Event) → IsTrue (is_cut past)
    → is_well_formed registers (past ++ rest) ≡ is_well_formed registers past && is_well_formed registers rest
formed-append registers past rest cut =
    ap (list_all (λ t. is_text registers t.text)) (transactions-cut past rest cut)
    ∙ list_all-append (λ t. is_text registers t.text) (transactions past) (behind past rest)
    ∙ ap (λ b. is_well_formed registers past && b)
    (formed-later registers (length past) (behind past rest) (transactions rest) (behind-later past rest))

pub formed-behind : (registers : ℕ) (past rest : List Event) → IsTrue (is_cut past) → IsTrue (is_well_formed registers (past ++ rest))
    → IsTrue (is_well_formed registers rest)
formed-behind registers past rest cut formed =
    (and_parts (is_well_formed registers past) (is_well_formed registers rest) (sym (formed-append registers past rest cut) ∙ formed)).1

-- its cuts are those of the whole behind the cut
cut-behind : (past rest : List Event) (at : ℕ) → IsTrue (is_cut past) → is_cut (take (length past + at) (past ++ rest)) ≡ is_cut (take at rest)
cut-behind past rest at cut = ap is_cut (take-append-add past rest at) ∙ is_cut-append past (take at rest) cut

IsCutAt-behind : (past rest : List Event) (at : ℕ) → IsTrue (is_cut past) → IsCutAt rest at → IsCutAt (past ++ rest) (length past + at)
IsCutAt-behind past rest at cut (within, is) =
    (let long = length-append past rest in omega (arith, within, long), cut-behind past rest at cut ∙ is)

IsCutAt_behind : (past rest : List Event) (at : ℕ) → IsTrue (is_cut past) → IsCutAt (past ++ rest) (length past + at) → IsCutAt rest at
IsCutAt_behind past rest at cut (within, is) =
    (let long = length-append past rest in omega (arith, within, long), sym (cut-behind past rest at cut) ∙ is)

-- and its windows are windows of the whole
pub HasWide-behind : (most : ℕ) (past rest : List Event) → IsTrue (is_cut past) → HasWide most rest → HasWide most (past ++ rest)
HasWide-behind most past rest cut w =
    let order = w.window.order in
    let long = length-append past rest in
    record {
      from = length past + w.from;
      upto = length past + w.upto;
      window = record {
        order = omega (arith, order);
        opens = IsCutAt-behind past rest w.from cut w.window.opens;
        inside = λ at after before is.
            let place : at ≡ length past + (at - length past) = omega (arith, after) in
            w.window.inside (at - length past) (omega (arith, after)) (omega (arith, before, after))
            (IsCutAt_behind past rest (at - length past) cut (subst (IsCutAt (past ++ rest)) place is));
        closes = elim w.window.closes [
          | inl end ↦ inl (omega (arith, end, long))
          | inr closing ↦ inr (IsCutAt-behind past rest w.upto cut closing)
        ];
      };
      wide = subst (λ (es : List Event). most < length (transactions es))
          (sym (ap (drop (length past + w.from)) (take-append-add past rest w.upto) ∙ drop-append-add past (take w.upto rest) w.from)) w.wide;
    }

-- the whole is final-state opaque, or strict, exactly where it is so from some outcome of the past
pub final-behind : (c : Criterion) (registers : ℕ) (start : State) (past rest : List Event) → IsTrue (is_cut past)
    → IsTrue (is_well_formed registers (past ++ rest))
    → IsFinalBy c registers start (past ++ rest) ↔ ((s : State) × outcomes_by c start past s × IsFinalBy c registers s rest)
final-behind c registers start past rest cut formed =
    let law = (cut_law c registers start past rest formed cut).final in
    let own = formed-behind registers past rest cut formed in (
      λ final. let (end, (s, is, leads)) = law.0 final in (s, is, outcome-final c registers s rest own end (s, refl, leads)),
      λ (s, is, final). let (end, (t, same, leads)) = final-outcome c registers s rest final in
          law.1 (end, (t, subst (outcomes_by c start past) (sym same) is, leads)),
    )
