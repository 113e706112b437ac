-- That the verdict was opaque so far at each bound, as the log goes on and when it is cut.
use Rattle.tmw_workers.proofs.Shared.{AllOpaque, Event, List, [], arith, last_bound, length, length-append, length-take-le, rules, subst, take, take-append-le, take-take, take_all, ℕ, ◌++◌, ◌∷◌, ◌≡◌, ◌≤◌}
use Rattle.tmw_defs.specs.Verdict.{IsVerdict, Rules}
use Rattle.tmw_defs.specs.declared.verdict.Verdict.TheVariants.{OpaqueSoFar}

-- the log has come as far as the last of the rounds
pub last_bound-within : (rules : Rules) (bounds : List ℕ) (log : List Event) → AllOpaque rules bounds log → last_bound bounds ≤ length log
last_bound-within rules bounds log all = grind arith

-- the log goes on
pub all_opaque-append : (rules : Rules) (bounds : List ℕ) (log more : List Event) → AllOpaque rules bounds log
    → AllOpaque rules bounds (log ++ more)
all_opaque-append rules [] log more all = tt
all_opaque-append rules (bound ∷ earlier) log more (rises, within, told, rest) =
    grind (arith, length-append, take-append-le, (all_opaque-append rules earlier log more rest))

-- a round more, at the end of which the verdict is opaque so far
pub all_opaque-round : (rules : Rules) (bounds : List ℕ) (tail : ℕ) (log : List Event) → AllOpaque rules bounds log → tail ≡ length log
    → IsVerdict rules log OpaqueSoFar → AllOpaque rules (tail ∷ bounds) log
all_opaque-round rules bounds tail log all is told = grind (arith, last_bound-within, take_all)

-- the log up to some place behind the last of the rounds
pub all_opaque-take : (rules : Rules) (bounds : List ℕ) (log : List Event) (place : ℕ) → AllOpaque rules bounds log → last_bound bounds ≤ place
    → place ≤ length log → AllOpaque rules bounds (take place log)
all_opaque-take rules [] log place all upto within = tt
all_opaque-take rules (bound ∷ earlier) log place (rises, low, told, rest) upto within =
    let more = all_opaque-take rules earlier log place rest (omega (arith, rises, upto)) within in
    grind (arith, length-take-le, take-take)

-- at the end of the last of the rounds
pub opaque_at_last : (rules : Rules) (bound : ℕ) (earlier : List ℕ) (log : List Event) → AllOpaque rules (bound ∷ earlier) log
    → bound ≡ length log → IsVerdict rules log OpaqueSoFar
opaque_at_last rules bound earlier log (rises, within, told, rest) is =
    subst (λ (history : List Event). IsVerdict rules history OpaqueSoFar) (take_all bound log (omega (arith, is))) told
