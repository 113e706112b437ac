-- A list of events begins with at most one whole run of a script; so no whole run is a proper beginning of another.
use Rattle.tmw_runs.proofs.Shared.{IsBeginning, IsWholeRun, IsWholeText, Kind, List, MatchBool-at_false, RunsLaw, [], ap, append-nil, append_assoc, arith, cases_Bool, inl, inr, is_abort, refl, sym, ◌++◌, ◌∙◌, ◌∷◌, ◌≡◌}

-- equal lists stay equal when their fronts are called by other names
same_fronts : (t u s r a b : List Kind) → t ≡ s → u ≡ r → t ++ a ≡ u ++ b → s ++ a ≡ r ++ b
same_fronts t u s r a b left right same = ap (λ front. front ++ a) (sym left) ∙ same ∙ ap (λ front. front ++ b) right

-- a list begins with at most one whole text of these calls
pub whole_text_front : (calls t u a b : List Kind) → IsWholeText calls t → IsWholeText calls u → t ++ a ≡ u ++ b
    → (t ≡ u) × (a ≡ b)
whole_text_front [] t u a b left right same = (left ∙ sym right, same_fronts t u [] [] a b left right same)
whole_text_front (call ∷ calls) t u a b (x, l, t_is, x_fits, l_rest) (y, r, u_is, y_fits, r_rest) same =
    let answer : x ≡ y = cc in
    let rests : l ++ a ≡ r ++ b = cc in
    elim (cases_Bool (is_abort x)) [
      | inl over ↦ grind arith
      | inr on ↦
          grind (
            arith,
            is_abort,
            (whole_text_front calls l r a b (MatchBool-at_false _ _ on
                l_rest) (MatchBool-at_false _ _ (ap is_abort (sym answer) ∙ on) r_rest) rests),
          )
    ]

-- a list begins with at most one whole run of this script
pub whole_run_front : (script : List (List Kind)) (k l a b : List Kind) → IsWholeRun script k → IsWholeRun script l
    → k ++ a ≡ l ++ b → (k ≡ l) × (a ≡ b)
whole_run_front [] k l a b left right same = (left ∙ sym right, same_fronts k l [] [] a b left right same)
whole_run_front (calls ∷ script) k l a b (t, m, k_is, t_whole, m_run) (u, n, l_is, u_whole, n_run) same =
    let fronts : (t ++ m) ++ a ≡ (u ++ n) ++ b = same_fronts k l (t ++ m) (u ++ n) a b k_is l_is same in
    let split : t ++ (m ++ a) ≡ u ++ (n ++ b) = sym (append_assoc t m a) ∙ fronts ∙ append_assoc u n b in
    let (texts, rests) = whole_text_front calls t u (m ++ a) (n ++ b) t_whole u_whole split in
    grind (arith, (whole_run_front script m n a b m_run n_run rests))

pub runs_law : RunsLaw
runs_law script kinds more whole longer =
    (whole_run_front script kinds (kinds ++ more) more [] whole longer (sym (append-nil (kinds ++ more)))).1

-- nothing follows a whole run
pub whole_ends : (script : List (List Kind)) (kinds more : List Kind) → IsWholeRun script kinds
    → IsBeginning script (kinds ++ more) → more ≡ []
whole_ends script kinds more whole (rest, longer) =
    let none_left : more ++ rest ≡ [] = runs_law script kinds (more ++ rest) whole (rw (← append_assoc) longer) in
    nothing_before more rest none_left
  where
    nothing_before : (front back : List Kind) → front ++ back ≡ [] → front ≡ []
    nothing_before [] back is = refl
    nothing_before (kind ∷ front) back is = absurd (cc)
