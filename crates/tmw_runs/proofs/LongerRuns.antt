-- Whole runs, one after another.
use Rattle.tmw_runs.proofs.Shared.{IsWholeRun, IsWholeText, Kind, List, [], append-nil, append_assoc, arith, subst, sym, ◌++◌, ◌∷◌}

-- one whole run after another
pub whole_run-append : (script more : List (List Kind)) (kinds later : List Kind) → IsWholeRun script kinds → IsWholeRun more later
    → IsWholeRun (script ++ more) (kinds ++ later)
whole_run-append [] more kinds later none_run run =
    subst (λ (k : List Kind). IsWholeRun more (k ++ later)) (sym none_run) run
whole_run-append (calls ∷ script) more kinds later (text, rest, split, whole, run) next =
    grind (arith, append_assoc, (whole_run-append script more rest later run next))

-- one more whole text after a whole run
pub whole_run-more : (script : List (List Kind)) (calls run text : List Kind) → IsWholeRun script run → IsWholeText calls text
    → IsWholeRun (script ++ calls ∷ []) (run ++ text)
whole_run-more script calls run text before whole = grind (arith, whole_run-append, append-nil)
