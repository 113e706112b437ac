-- One event of a list more, for a tracker.
use Rattle.tmw_plain_check.proofs.Shared.{Event, IfErr, IfOk, IsFalse, List, Result, Tracks, [], arith, false, get_or, is_err, is_well_formed, length, take, take_more, true, ℕ, ◌++◌, ◌+◌, ◌<◌, ◌∷◌, ◌≡◌}
use Rattle.tmw_wellformed.specs.declared.malformed.Malformed.{Malformed}
use Rattle.tmw_wellformed.specs.declared.tracker.Tracker.{Tracker}
use Rattle.tmw_wellformed.specs.Faults.{Refuses}

take-next : (events : List Event) (place : ℕ) (event : Event) → place < length events → event ≡ get_or events place event
    → take place events ++ event ∷ [] ≡ take (place + 1) events
take-next events place event within is = grind (arith, take, take_more)

-- the tracker took the event
pub tracks-next : {T E : Type 0} (registers : ℕ) (events : List Event) (place : ℕ) (event : Event) (old new : Tracker) (answer : Result T E)
    → place < length events → event ≡ get_or events place event
    → IfOk answer (λ _. (n : ℕ) (history : List Event) → Tracks n history old → Tracks n (history ++ event ∷ []) new)
    → is_err answer ≡ false → Tracks registers (take place events) old → Tracks registers (take (place + 1) events) new
tracks-next registers events place event old new answer within is takes took tracks = grind (arith, take-next)

-- the tracker refused it
pub ill_formed-next : {T : Type 0} (registers : ℕ) (events : List Event) (place : ℕ) (event : Event) (old : Tracker) (answer : Result T Malformed)
    → place < length events → event ≡ get_or events place event
    → IfErr answer (λ fault. (n : ℕ) (history : List Event) → Tracks n history old → Refuses n history event fault)
    → is_err answer ≡ true → Tracks registers (take place events) old → IsFalse (is_well_formed registers (take (place + 1) events))
ill_formed-next registers events place event old answer within is refuses refused tracks = grind (arith, take-next)
