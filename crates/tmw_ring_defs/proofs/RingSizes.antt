-- A step keeps the ring's size.
use Rattle.tmw_ring_defs.proofs.Shared.{Core, List, Machine, None, Some, Step, Stepped, [], after, arith, core_step, machine_step, refl, ◌∷◌, ◌≡◌}

-- a step that is answered leaves the size as it was
abbrev pub SameSize : Core → Stepped → Type 0
SameSize core None = Unit {0}
SameSize core (Some (reply, next)) = next.size ≡ core.size

pub core_step-size : (step : Step) (core : Core) → SameSize core (core_step step core)
core_step-size step core = grind arith

pub after-size : (steps : List Step) (machine : Machine) → (after steps machine).core.size ≡ machine.core.size
after-size [] machine = refl
after-size (step ∷ steps) machine =
    let more = after-size steps (machine_step step machine).1 in grind arith
