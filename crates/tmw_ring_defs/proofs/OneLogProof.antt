-- Whatever steps a ring's machine makes, its answers are those of one sequential log.
use Rattle.tmw_ring_defs.proofs.Shared.{Announced, AskInOrder, Asks, Event, Idle, List, Machine, OneLogLaw, RingSize, Some, Sound, Step, StepLaw, [], after, announces, ap, drop, machine_step, new_core, new_machine, refl, replicate, replies, sequential_of, slice_get, suc, sym, take-append-drop, zero, ℕ, ◌++◌, ◌∙◌, ◌∷◌, ◌≡◌}
use Rattle.tmw_ring_defs.proofs.LogAnswers.{Knows, IsAnnounced, core_step-answered}
use Rattle.tmw_ring_defs.proofs.RingSizes.{after-size}
use Rattle.tmw_ring_defs.proofs.MachineProof.{machine_step-each, machine_step-sound, after-sound, after-spares}

-- A machine's step is answered as the log would answer it, and the kinds announced stay known.
pub machine_step-answered : (kinds : Announced) (step : Step) (machine : Machine) → Sound machine.core → Knows kinds machine.core
    → Asks kinds step (machine_step step machine).0 (sequential_of machine.core) (sequential_of (machine_step step machine).1.core)
    × Knows (announces step (machine_step step machine).0 kinds) (machine_step step machine).1.core
machine_step-answered kinds step machine sound knows =
    machine_step-each
    (λ r. Asks kinds step r.0 (sequential_of machine.core) (sequential_of r.1.core) × Knows (announces step r.0 kinds) r.1.core)
    step machine (refl, knows)
    (λ stopped. (refl, knows))
    (λ reply core is. let answered = core_step-answered kinds step machine.core sound knows in rw is at answered)

-- So is each step of a run from a sound state, where the kinds that its writers have to record were announced.
pub asked_in_order : StepLaw → (kinds : Announced) (steps : List Step) (machine : Machine) → Sound machine.core → Knows kinds machine.core
    → AskInOrder kinds steps (replies steps machine) (sequential_of machine.core) (sequential_of (after steps machine).core)
asked_in_order law kinds [] machine sound knows = refl
asked_in_order law kinds (step ∷ steps) machine sound knows =
    let reply = (machine_step step machine).0 in
    let next = (machine_step step machine).1 in
    let (asks, known) = machine_step-answered kinds step machine sound knows in
    let kept = (machine_step-sound law step machine sound).0 in
    (sequential_of next.core, asks, asked_in_order law (announces step reply kinds) steps next kept known)

-- Before any step nobody is on the way to a claim.
pub new_core-knows : (kinds : Announced) (size : RingSize) → Knows kinds (new_core size)
new_core-knows kinds size writer phase is = idle size.writers writer is
  where
    idle : (count i : ℕ) → slice_get (replicate count Idle) i ≡ Some phase → IsAnnounced (kinds writer) phase
    idle zero i at = absurd (cc)
    idle (suc count) zero at = let is_idle : Idle ≡ phase = cc in rw (← is_idle) tt
    idle (suc count) (suc i) at = idle count i at

pub one_log_law : StepLaw → ((size : RingSize) → Sound (new_core size)) → OneLogLaw
one_log_law law starts size steps =
    let start = starts size in
    let machine = new_machine size in
    let sound = after-sound law steps machine start in
    let log = (after steps machine).core.log in
    let front = (after steps machine).core.front in
    record {
      sound = sound;
      sized = after-size steps machine;
      asked = λ kinds. asked_in_order law kinds steps machine start (new_core-knows kinds size);
      begins = (drop front log, sym (ap (λ (first : List Event). first ++ drop front log) sound.begins ∙ take-append-drop front log));
      spares = after-spares law steps machine start;
    }
