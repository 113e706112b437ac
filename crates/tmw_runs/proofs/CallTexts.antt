-- Lists of calls, and texts of calls that are answered in turn.
use Rattle.tmw_runs.proofs.Shared.{Bool, Kind, List, [], answers, is_call, list_all, true, ℕ, ◌&&◌, ◌∷◌}

-- Each call is followed by an answer that fits it; the last may be without one. Transactions follow one another.
abbrev pub is_turns : ℕ → List Kind → Bool
is_turns registers [] = true
is_turns registers (call ∷ []) = is_call registers call
is_turns registers (call ∷ answer ∷ more) = is_call registers call && answers call answer && is_turns registers more

-- Each transaction of these makes calls alone, on registers that the run has.
abbrev pub are_calls : ℕ → List (List Kind) → Bool
are_calls registers script = list_all (list_all (is_call registers)) script
