use Rattle.tmw_ring_steps.proofs.Shared.{SimulatedRing, Spares, core_of, machine_of, subst}
use Rattle.tmw_ring_steps.proofs.Runs.{made_sound}
use Rattle.tmw_ring_steps.proofs.sim.Sim.step.Goals as goal

pub invariant_of-self-2 : goal.invariant_of-self-2
invariant_of-self-2 c =
    (made_sound c.args.step (machine_of c.self.inside.state) (machine_of c.step.new.self) c.in_ok-reply.reply
    c.in_ok-reply.ensures.ok c.self.invariant).0

pub returns-clause-sound : goal.returns-clause-sound
returns-clause-sound c =
    (made_sound c.args.step (machine_of c.self.inside.state) (machine_of c.step.new.self) c.in_ok-reply.reply
    c.in_ok-reply.ensures.ok c.self.invariant).0

pub returns-clause-spares : goal.returns-clause-spares
returns-clause-spares c =
    let P : SimulatedRing → Type 0 = λ sim. Spares sim.machine.core (core_of c.step.new.self) in
    subst P c.self.view_is (made_sound c.args.step (machine_of c.self.inside.state) (machine_of c.step.new.self) c.in_ok-reply.reply
    c.in_ok-reply.ensures.ok c.self.invariant).1
