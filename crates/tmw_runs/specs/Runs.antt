-- The runs of a script: what a thread records that makes its calls, one after another, and is answered.
use Rattle.tmw_runs.specs.Shared.{A, Kind, answers}
use Rattle.std.specs.Prelude.{Bool, IsTrue, List, MatchBool, [], false, true, ℕ, ◌++◌, ◌∷◌, ◌≡◌}
use Rattle.tmw_runs.specs.Scripts.{are_transactions}

-- An abort event.
abbrev pub is_abort : Kind → Bool
is_abort A = true
is_abort _ = false

-- The whole text of a transaction that makes these calls: each call is followed by an answer that fits it, and the text is
-- over after the last answer or after an abort event.
abbrev pub IsWholeText : List Kind → List Kind → Type 0
IsWholeText [] text = text ≡ []
IsWholeText (call ∷ calls) text =
    (answer : Kind) × (more : List Kind) × (text ≡ call ∷ answer ∷ more) × IsTrue (answers call answer)
    × MatchBool (is_abort answer) (more ≡ []) (IsWholeText calls more)

-- A whole run of a script: the whole texts of its transactions, in order.
abbrev pub IsWholeRun : List (List Kind) → List Kind → Type 0
IsWholeRun [] kinds = kinds ≡ []
IsWholeRun (calls ∷ script) kinds =
    (text : List Kind) × (more : List Kind) × (kinds ≡ text ++ more) × IsWholeText calls text × IsWholeRun script more

-- A beginning of a run. It may end after a call.
abbrev pub IsBeginning : List (List Kind) → List Kind → Type 0
IsBeginning script kinds = (more : List Kind) × IsWholeRun script (kinds ++ more)

-- These events begin a run of a script of transactions, on registers that the run has.
abbrev pub BeginsScript : (registers : ℕ) → (kinds : List Kind) → Type 0
BeginsScript registers kinds = (script : List (List Kind)) × IsTrue (are_transactions registers script) × IsBeginning script kinds
