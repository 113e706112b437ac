use Rattle.tmw_steps.proofs.Shared.{IsRunOf, List, Step, ap, length, subst, ◌∙◌, ◌≡◌}
use Rattle.tmw_ring_defs.specs.RingMachine.{Machine, after, replies}
use Rattle.tmw_ring_steps.specs.SimulatedRing.{SimulatedRing}
use Rattle.tmw_steps.proofs.steps_command.made_of.Goals as goal

pub returns : goal.returns
returns c =
    let steps : List Step = c.deref.result.now in
    let made = c.in-Ok.ensures in
    let ran = c.in-Ok-run.ensures in
    let reached : c.run.new.self.machine ≡ after steps c.in-Ok.sim.machine = ran.machine in
    let from = ap (λ (sim : SimulatedRing). after steps sim.machine) made.2 in
    subst (λ (told : List Step). IsRunOf c.args.list.now.size told
    (record { replies = c.in-Ok-run.replies; log = length c.log.result.now; taken = length c.taken.result.now })) c.deref.ensures.value
    (record {
      size = made.0;
      sized = made.1;
      replies = ran.replies ∙ ap (λ (sim : SimulatedRing). replies steps sim.machine) made.2;
      log = ap length c.log.ensures ∙ ap (λ (machine : Machine). length machine.core.log) (reached ∙ from);
      taken = ap length c.taken.ensures ∙ ap (λ (machine : Machine). length machine.core.taken) (reached ∙ from);
    })
