-- A run of steps so far, one step more, and that it goes on as one log.
use Rattle.tmw_ring_steps.proofs.Shared.{GoesOnAsOneLog, List, Machine, RanFirst, Reply, SimulatedRing, Sound, Spares, Step, [], after, ap, arith, length, length-append, length-take-le, machine_step, new_core-sound, new_machine, refl, replies, rules, subst, sym, take, ℕ, ◌++◌, ◌+◌, ◌∙◌, ◌∷◌, ◌≡◌, ◌≤◌}
use Rattle.tmw_ring_defs.proofs.MachineProof.{machine_step-sound, after-append, replies-append}
use Rattle.tmw_ring_defs.proofs.OneLogProof.{one_log_law}
use Rattle.tmw_ring_defs.proofs.RingLaw.{step_law}
use Rattle.tmw_ring_defs.specs.OneLog.{IsOneLog}

-- a machine that a step made, so answered
pub made_sound : (step : Step) (old new : Machine) (reply : Reply) → (reply, new) ≡ machine_step step old → Sound old.core
    → Sound new.core × Spares old.core new.core
made_sound step old new reply is sound = grind (arith, machine_step-sound step_law step old sound)

-- These steps were made, so answered.
pub record HasRun (old : SimulatedRing) (steps : List Step) (said : List Reply) (new : SimulatedRing) : Type 0 where
  pub counted : new.made ≡ old.made + length steps
  pub reached : new.machine ≡ after steps old.machine
  pub answered : said ≡ replies steps old.machine

pub run-more : (old : SimulatedRing) (steps : List Step) (said : List Reply) (new : SimulatedRing) (step : Step) (reply : Reply) (next : SimulatedRing)
    → HasRun old steps said new → reply ≡ (machine_step step new.machine).0 → next.machine ≡ (machine_step step new.machine).1
    → next.made ≡ new.made + 1 → HasRun old (steps ++ step ∷ []) (said ++ reply ∷ []) next
run-more old steps said new step reply next run is_reply moved more =
    grind (arith, length-append, after-append, replies-append)

-- A sound machine goes on as one log.
pub goes_on : (old : Machine) (steps : List Step) (new : Machine) → Sound old.core → new ≡ after steps old → GoesOnAsOneLog old steps new
goes_on old steps new sound is size past from =
    let start = new_machine size in
    let reached : after (past ++ steps) start ≡ new = after-append past steps start ∙ ap (after steps) (sym from) ∙ sym is in
    subst (IsOneLog size (past ++ steps) (replies (past ++ steps) start)) reached
    (one_log_law step_law new_core-sound size (past ++ steps))

-- the first of these steps, which were made before memory was refused
pub ran_first : (old : SimulatedRing) (steps : List Step) (count : ℕ) (said : List Reply) (new : SimulatedRing) → Sound old.machine.core
    → count ≤ length steps → HasRun old (take count steps) said new → RanFirst old steps new
ran_first old steps count said new sound within run = search (rules, length-take-le, goes_on)

-- before the first step
pub run-none : (old : SimulatedRing) → HasRun old [] [] old
run-none old = record { counted = omega arith; reached = refl; answered = refl }
