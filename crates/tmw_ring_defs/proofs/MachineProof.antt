-- A ring's machine: runs join end to end, and each step leaves the ring sound and spares the published places.
use Rattle.tmw_ring_defs.proofs.Shared.{Bool, Core, List, Machine, NotNow, Reply, Some, Sound, Spares, Step, StepLaw, Stopped, [], after, ap, arith, core_step, length, machine_step, refl, replies, subst, suc, take, zero, ℕ, ◌++◌, ◌+◌, ◌<◌, ◌∷◌, ◌≡◌}

-- A machine's step changes nothing, or stops a writer, or is a step of its ring: what holds in each of these holds of it.
pub machine_step-each : (P : Reply × Machine → Type 0) (step : Step) (machine : Machine) → P (NotNow, machine)
    → ((stopped : List Bool) → P (Stopped, record machine { stopped = stopped }))
    → ((reply : Reply) (core : Core) → core_step step machine.core ≡ Some (reply, core) → P (reply, record machine { core = core }))
    → P (machine_step step machine)
machine_step-each P step machine kept stops each = grind arith

pub machine_step-sound : StepLaw → (step : Step) (machine : Machine) → Sound machine.core
    → Sound (machine_step step machine).1.core × Spares machine.core (machine_step step machine).1.core
machine_step-sound law step machine sound =
    let same : Spares machine.core machine.core = λ place standing published. refl in
    machine_step-each (λ r. Sound r.1.core × Spares machine.core r.1.core) step machine (sound, same)
    (λ stopped. (sound, same))
    (λ reply core is. law step machine.core core reply sound is)

pub after-sound : StepLaw → (steps : List Step) (machine : Machine) → Sound machine.core → Sound (after steps machine).core
after-sound law [] machine sound = sound
after-sound law (step ∷ steps) machine sound =
    after-sound law steps (machine_step step machine).1 (machine_step-sound law step machine sound).0

-- What a run of two parts makes of a machine is what the second part makes of what the first does; and so it is with the answers.
pub after-append : (past rest : List Step) (machine : Machine) → after (past ++ rest) machine ≡ after rest (after past machine)
after-append [] rest machine = refl
after-append (step ∷ past) rest machine = after-append past rest (machine_step step machine).1

pub replies-append : (past rest : List Step) (machine : Machine)
    → replies (past ++ rest) machine ≡ replies past machine ++ replies rest (after past machine)
replies-append [] rest machine = refl
replies-append (step ∷ past) rest machine =
    ap (λ said. (machine_step step machine).0 ∷ said) (replies-append past rest (machine_step step machine).1)

-- Each step of a run spares the places that were published and not taken before it.
pub after-spares : StepLaw → (steps : List Step) (machine : Machine) → Sound machine.core → (count : ℕ) → count < length steps
    → Spares (after (take count steps) machine).core (after (take (count + 1) steps) machine).core
after-spares law steps machine sound count within =
    let next : suc count ≡ count + 1 = omega arith in
    subst (λ (more : ℕ). Spares (after (take count steps) machine).core (after (take more steps) machine).core) next
    (spares steps machine sound count within)
  where
    spares : (steps : List Step) (machine : Machine) → Sound machine.core → (count : ℕ) → count < length steps
        → Spares (after (take count steps) machine).core (after (take (suc count) steps) machine).core
    spares [] machine sound count within = absurd (omega (arith, within))
    spares (step ∷ steps) machine sound zero within = (machine_step-sound law step machine sound).1
    spares (step ∷ steps) machine sound (suc count) within =
        spares steps (machine_step step machine).1 (machine_step-sound law step machine sound).0 count (omega (arith, within))
