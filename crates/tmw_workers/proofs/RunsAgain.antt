-- Runs of a script that is carried out again and again.
use Rattle.tmw_workers.proofs.Shared.{IsBeginning, IsTrue, IsWholeRun, Kind, List, [], and_from, append-nil, append_assoc, are_transactions, is_transaction, refl, subst, suc, sym, zero, ℕ, ◌++◌, ◌∙◌, ◌≡◌}
use Rattle.tmw_runs.proofs.LongerRuns.{whole_run-append}
use Rattle.std.proofs.lemmas.List.Folds.{list_all-append}

-- the script, so many times
abbrev pub repeated : ℕ → List (List Kind) → List (List Kind)
repeated zero script = []
repeated (suc count) script = repeated count script ++ script

-- a beginning of a run after a whole one
pub beginning-append : (script more : List (List Kind)) (kinds later : List Kind) → IsWholeRun script kinds → IsBeginning more later
    → IsBeginning (script ++ more) (kinds ++ later)
beginning-append script more kinds later whole (rest, run) =
    (rest, subst (IsWholeRun (script ++ more)) (sym (append_assoc kinds later rest)) (whole_run-append script more kinds (later ++ rest) whole run))

pub repeated-nil : (count : ℕ) → repeated count [] ≡ []
repeated-nil zero = refl
repeated-nil (suc count) = append-nil (repeated count []) ∙ repeated-nil count

pub are_transactions-repeated : (registers count : ℕ) (script : List (List Kind)) → IsTrue (are_transactions registers script)
    → IsTrue (are_transactions registers (repeated count script))
are_transactions-repeated registers zero script asks = refl
are_transactions-repeated registers (suc count) script asks =
    list_all-append (is_transaction registers) (repeated count script) script
    ∙ and_from _ _ (are_transactions-repeated registers count script asks) asks
