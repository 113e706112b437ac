-- A transaction that is carried out by turns, a call or an answer at a time, by the events that are recorded of it.
use Rattle.tmw_runs.specs.Shared.{A, Kind, answers}
use Rattle.std.specs.Prelude.{IsTrue, List, [], drop, get_or, length, suc, true, zero, ℕ, ◌++◌, ◌+◌, ◌<◌, ◌↔◌, ◌∷◌, ◌≡◌}
use Rattle.tmw_runs.specs.Runs.{IsWholeRun, IsWholeText}
use Rattle.tmw_runs.specs.Scripts.{are_transactions, is_request}

-- A transaction of so many calls may have this one at this place: a request to commit or to abort is the last, and no other call is.
abbrev pub IsPlaced : (count place : ℕ) → Kind → Type 0
IsPlaced count place call = (answers call A ≡ true) × ((is_request call ≡ true) ↔ (place + 1 ≡ count))

-- After these events the transaction leaves these calls: each whole text of what is left completes them to one of the transaction.
abbrev pub LeavesCalls : (calls kinds left : List Kind) → Type 0
LeavesCalls calls kinds left = (more : List Kind) → IsWholeText left more → IsWholeText calls (kinds ++ more)

-- These events bring a transaction to its turn. In phase 0 they leave the call at this place and the later ones. In phase 1 that
-- call is recorded behind such events. Afterwards they are a whole text.
abbrev pub Follows : (calls : List Kind) → (place phase : ℕ) → (kinds : List Kind) → Type 0
Follows calls place zero kinds = LeavesCalls calls kinds (drop place calls)
Follows calls place (suc zero) kinds =
    (place < length calls) × (before : List Kind) × (kinds ≡ before ++ get_or calls place A ∷ [])
    × LeavesCalls calls before (drop place calls)
Follows calls place (suc (suc more)) kinds = IsWholeText calls kinds

-- A thread has recorded by turns: a whole run of these transactions, and then events that bring one more to its turn.
pub record HasTurned (script : List (List Kind)) (calls : List Kind) (place phase : ℕ) (kinds : List Kind) : Type 0 where
  pub run : List Kind
  pub text : List Kind
  pub parts : kinds ≡ run ++ text
  pub whole : IsWholeRun script run
  pub follows : Follows calls place phase text

-- A thread has recorded these events by turns alone, of transactions on registers that the run has.
pub record IsByTurns (registers : ℕ) (kinds : List Kind) : Type 0 where
  pub script : List (List Kind)
  pub calls : List Kind
  pub asks : IsTrue (are_transactions registers (script ++ calls ∷ []))
  pub place : ℕ
  pub phase : ℕ
  pub turned : HasTurned script calls place phase kinds
