-- One thread makes the calls of all scripts: what it records, and how far each script has come.
use Rattle.tmw_drive.specs.Shared.{Answer, Call, Ending, Event, Kind, kinds_of, script_at}
use Rattle.tmw_runs.specs.AnswersStand.{AllStand}
use Rattle.std.specs.Prelude.{All, List, [], get_or, length, true, ℕ, ◌++◌, ◌<◌, ◌∷◌, ◌≡◌, ◌⊎◌}
use Rattle.tmw_workers.specs.declared.ending.Ending.TheVariants.{Done, Left, Stopped}
use Rattle.tmw_runs.specs.Runs.{IsWholeRun, IsBeginning}

-- Where the thread's run of its script is whole, its entry adds nothing to the log. Else the thread makes its next call, and the
-- call and its answer come into the log side by side. No whole run is a proper beginning of another, so not both can be.
abbrev pub DoesEntry : List (List Kind) → ℕ → List Event → List Event → Type 0
DoesEntry script thread before after =
    (IsWholeRun script (kinds_of thread before) × (after ≡ before))
    ⊎ ((call : Event) × (answer : Event) × (call.thread.number ≡ thread) × (answer.thread.number ≡ thread)
    × (after ≡ before ++ call ∷ answer ∷ []) × IsBeginning script (kinds_of thread after))

-- From the log before, the entries of the order are done one after another.
abbrev pub Drives : List (List (List Kind)) → List Event → List ℕ → List Event → Type 0
Drives scripts before [] after = after ≡ before
Drives scripts before (thread ∷ order) after =
    (next : List Event) × DoesEntry (script_at scripts thread) thread before next × Drives scripts next order after

-- A thread is done when its run of the script is whole. Else the order has left it at a beginning of one.
abbrev pub EndsAs : List (List Kind) → List Kind → Ending → Type 0
EndsAs script kinds Done = IsWholeRun script kinds
EndsAs script kinds Left = IsBeginning script kinds × (IsWholeRun script kinds → ⊥)
EndsAs script kinds (Stopped refused) = ⊥

-- The log is what the scripts make of a memory in this order: each answer is one that the memory gives, the ends tell how far each
-- script has come, and no other thread has events.
pub record IsDriven (gives : Call → Answer → Type 0) (scripts : List (List (List Kind))) (order : List ℕ) (log : List Event) (ends : List Ending) : Type 0 where
  pub driven : Drives scripts [] order log
  pub stands : (thread : ℕ) → AllStand gives true (kinds_of thread log)
  pub counted : length ends ≡ length scripts
  pub ended : (thread : ℕ) (fallback : Ending) → thread < length scripts
      → EndsAs (script_at scripts thread) (kinds_of thread log) (get_or ends thread fallback)
  pub own : All (λ event. event.thread.number < length scripts) log
