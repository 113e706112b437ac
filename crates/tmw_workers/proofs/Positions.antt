-- The script and the call that are read at a player's position.
use Rattle.tmw_workers.proofs.Shared.{Kind, List, Some, [], arith, calls_of, drop, from_call, get_or, get_or-map, length, next_of, refl, script_at, scripts_of, slice_get, suc, zero, ℕ, ◌<◌, ◌∷◌, ◌≡◌}
use Rattle.std.specs.Global.{Vec}

next_of-drop : (calls : List Kind) (call : ℕ) (later : List (List Kind)) → next_of (drop call calls ∷ later) ≡ slice_get calls call
next_of-drop [] zero later = refl
next_of-drop [] (suc call) later = refl
next_of-drop (first ∷ calls) zero later = refl
next_of-drop (first ∷ calls) (suc call) later = next_of-drop calls call later

-- the next call is the one at its place in the transaction at its place
pub next_of-get : (script : List (Vec Kind)) (transaction call : ℕ) (calls : Vec Kind) → slice_get script transaction ≡ Some calls
    → next_of (from_call call (drop transaction (calls_of script))) ≡ slice_get calls.items call
next_of-get [] transaction call calls is = absurd (cc)
next_of-get (first ∷ script) zero call calls is = grind (arith, next_of-drop)
next_of-get (first ∷ script) (suc transaction) call calls is = next_of-get script transaction call calls is

-- the script of a thread is the vector at its place
pub script_at-read : (scripts : List (Vec (Vec Kind))) (place : ℕ) (script : Vec (Vec Kind)) → place < length scripts
    → script ≡ get_or scripts place script → script_at (scripts_of scripts) place ≡ calls_of script.items
script_at-read scripts place script low is = grind (arith, get_or-map)
