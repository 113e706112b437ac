-- A run of a new ring is one of its machine, of which no writer stops.
use Rattle.tmw_ring_defs.proofs.Shared.{Answered, Core, IsOneLog, List, Machine, OneRunLaw, Reply, RingSize, Runs, Some, Sound, Step, StepLaw, [], actor_of, after, ap, arith, core_step, false, get_or, machine_step, new_core, new_machine, refl, replicate, replies, replies_of, steps_of, subst, suc, sym, true, zero, ℕ, ◌<◌, ◌∷◌, ◌≡◌, ◌≤◌}
use Rattle.tmw_ring_defs.proofs.OneLogProof.{one_log_law}
use Rattle.tmw_ring_defs.proofs.RunsActors.{among, same_size}

-- The machine of a ring in this state, of which no writer has stopped.
abbrev unstopped : RingSize → Core → Machine
unstopped size core = record { core = core; stopped = replicate size.writers false }

none_stopped : (count writer : ℕ) → writer < count → get_or (replicate count false) writer true ≡ false
none_stopped zero writer within = absurd (omega (arith, within))
none_stopped (suc count) zero within = refl
none_stopped (suc count) (suc writer) within = none_stopped count writer (omega (arith, within))

machine_goes : (size : RingSize) (core next : Core) (step : Step) (reply : Reply) → actor_of step ≤ size.writers
    → core_step step core ≡ Some (reply, next) → machine_step step (unstopped size core) ≡ (reply, unstopped size next)
machine_goes size core next step reply small is = grind (arith, none_stopped)

runs-machine : StepLaw → (size : RingSize) (core end : Core) (run : List Answered) → Sound core → core.size ≡ size → Runs core run end
    → (replies (steps_of run) (unstopped size core) ≡ replies_of run) × (after (steps_of run) (unstopped size core) ≡ unstopped size end)
runs-machine law size core end [] sound sized ran = (refl, ap (unstopped size) (sym ran))
runs-machine law size core end (first ∷ run) sound sized (next, is, ran) =
    let steps : List Step = steps_of run in
    let goes = machine_goes size core next first.step first.reply (among size core next first sound sized is) is in
    let more = runs-machine law size next end run (law first.step core next first.reply sound is).0 (same_size size core next first sized is) ran in
    grind arith

pub one_run_law : StepLaw → ((size : RingSize) → Sound (new_core size)) → OneRunLaw
one_run_law law starts size run core ran =
    let made = runs-machine law size (new_core size) core run (starts size) refl ran in
    let machine : Machine = after (steps_of run) (new_machine size) in (
      subst (λ (said : List Reply). IsOneLog size (steps_of run) said machine) made.0 (one_log_law law starts size (steps_of run)),
      ap (λ (m : Machine). m.core) made.1,
    )
