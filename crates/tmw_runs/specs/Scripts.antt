-- A thread's script: for each of its transactions the calls that it makes.
use Rattle.tmw_runs.specs.Shared.{Kind, N, R, T, W, X}
use Rattle.std.specs.Prelude.{Bool, List, [], false, get_or, map, nat_lt, true, ℕ, ◌&&◌, ◌∷◌}
use Rattle.std.specs.Global.{Vec}
use Rattle.std.specs.List.{list_all}

-- A call that reads, writes or adds to a register that the run has.
abbrev pub is_operation : ℕ → Kind → Bool
is_operation registers (R r) = nat_lt r.number registers
is_operation registers (W r v) = nat_lt r.number registers
is_operation registers (N r d) = nat_lt r.number registers
is_operation registers _ = false

-- A call that asks to commit or to abort.
abbrev pub is_request : Kind → Bool
is_request T = true
is_request X = true
is_request _ = false

-- The calls of a transaction: operations, and then a request.
abbrev pub is_transaction : ℕ → List Kind → Bool
is_transaction registers [] = false
is_transaction registers (call ∷ []) = is_request call
is_transaction registers (call ∷ more) = is_operation registers call && is_transaction registers more

-- Each of these is the calls of a transaction.
abbrev pub are_transactions : ℕ → List (List Kind) → Bool
are_transactions registers script = list_all (is_transaction registers) script

-- The script that a vector of vectors of calls is.
abbrev pub script_of : Vec (Vec Kind) → List (List Kind)
script_of script = map (λ calls. calls.items) script.items

-- The scripts of all threads.
abbrev pub scripts_of : List (Vec (Vec Kind)) → List (List (List Kind))
scripts_of scripts = map script_of scripts

-- The script of this thread. A thread without a script has nothing to do.
abbrev pub script_at : List (List (List Kind)) → ℕ → List (List Kind)
script_at scripts thread = get_or scripts thread []
