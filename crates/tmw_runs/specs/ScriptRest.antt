-- What a script still asks for, after what a thread has recorded of it.
use Rattle.tmw_runs.specs.Shared.{Kind}
use Rattle.std.specs.Prelude.{List, ◌++◌}
use Rattle.tmw_runs.specs.Runs.{IsWholeRun}

-- After these events the script leaves this one: each whole run of what is left completes them to a whole run of the script.
-- What is left is a script again; its first transaction may have lost calls.
abbrev pub Leaves : List (List Kind) → List Kind → List (List Kind) → Type 0
Leaves script kinds left = (more : List Kind) → IsWholeRun left more → IsWholeRun script (kinds ++ more)
