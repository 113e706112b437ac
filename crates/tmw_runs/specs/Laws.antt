-- Laws of scripts and of turns: a script's end is known from its run, threads that carry out transactions record well-formed histories,
-- and turns grow into whole runs.
use Rattle.tmw_runs.specs.Shared.{A, Kind, is_call, is_well_formed}
use Rattle.std.specs.Prelude.{IsTrue, List, [], get_or, length, suc, take, true, ℕ, ◌++◌, ◌<◌, ◌∷◌, ◌≡◌}
use Rattle.tmw_defs.specs.ThreadTransactions.{kinds_of}
use Rattle.tmw_events.specs.declared.event.Event.{Event}
use Rattle.tmw_runs.specs.Runs.{IsWholeRun}
use Rattle.tmw_runs.specs.Scripts.{is_transaction}
use Rattle.tmw_runs.specs.ByTurns.{Follows, HasTurned, IsPlaced}

-- No whole run of a script is a proper beginning of another.
abbrev pub RunsLaw : Type 0
RunsLaw = (script : List (List Kind)) (kinds more : List Kind) → IsWholeRun script kinds → IsWholeRun script (kinds ++ more)
    → more ≡ []

-- The law of a way to record: where each thread's events are recorded in it, each prefix of the history is well-formed.
abbrev pub FormedLaw : ((registers : ℕ) → (kinds : List Kind) → Type 0) → Type 0
FormedLaw Records = (registers : ℕ) (history : List Event) → ((thread : ℕ) → Records registers (kinds_of thread history))
    → (m : ℕ) → IsTrue (is_well_formed registers (take m history))

-- The empty list of events brings a transaction to its first turn.
abbrev pub BeginsLaw : Type 0
BeginsLaw = (calls : List Kind) → Follows calls 0 0 []

-- An event that brings a transaction from turn to turn, whatever was recorded of it, brings the thread on.
abbrev pub StepLaw : Type 0
StepLaw = (script : List (List Kind)) (calls kinds : List Kind) (recorded : Kind) (place phase next_place next_phase : ℕ)
    → HasTurned script calls place phase kinds
    → ((text : List Kind) → Follows calls place phase text → Follows calls next_place next_phase (text ++ recorded ∷ []))
    → HasTurned script calls next_place next_phase (kinds ++ recorded ∷ [])

-- Once the last transaction is over, the thread's events are a whole run of all.
abbrev pub OverLaw : Type 0
OverLaw = (script : List (List Kind)) (calls kinds : List Kind) (place more : ℕ) → HasTurned script calls place (suc (suc more)) kinds
    → IsWholeRun (script ++ calls ∷ []) kinds

-- Calls, at least one, of which each is at its place and on a register that the run has, are those of a transaction.
abbrev pub PlacedLaw : Type 0
PlacedLaw = (registers : ℕ) (calls : List Kind) → 0 < length calls
    → ((place : ℕ) → place < length calls
    → (is_call registers (get_or calls place A) ≡ true) × IsPlaced (length calls) place (get_or calls place A))
    → IsTrue (is_transaction registers calls)
