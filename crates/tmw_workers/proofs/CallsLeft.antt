-- The calls that a script has left become fewer with each answer.
use Rattle.tmw_workers.proofs.Shared.{GoesOn, Kind, List, Player, Some, [], ap, arith, left_of, length, next_of, ℕ, ◌+◌, ◌<◌, ◌∷◌, ◌≡◌}
use Rattle.tmw_workers.proofs.NextCall.{left_of-goes_on, next_left, next_of-some}

abbrev pub calls_left : List (List Kind) → ℕ
calls_left [] = 0
calls_left (calls ∷ later) = length calls + calls_left later

calls_left-next_left : (call answer : Kind) (calls : List Kind) (later : List (List Kind))
    → calls_left (next_left answer ((call ∷ calls) ∷ later)) < calls_left ((call ∷ calls) ∷ later)
calls_left-next_left call answer calls later = grind arith

pub calls_left-goes_on : (script : List (List Kind)) (old new : Player) (call answer : Kind) → next_of (left_of script old) ≡ Some call
    → GoesOn answer old new → calls_left (left_of script new) < calls_left (left_of script old)
calls_left-goes_on script old new call answer is goes =
    let next = next_of-some (left_of script old) call is in
    let fewer = calls_left-next_left call answer next.calls next.later in
    let new_left = ap calls_left (left_of-goes_on script old new call answer next goes) in
    let old_left = ap calls_left next.is in
    omega (arith, fewer, new_left, old_left)
