use Rattle.tmw_ring_steps.proofs.Shared.{Machine, SimulatedRing, Sound, ap, new_core-sound, subst, sym}
use Rattle.tmw_ring_steps.proofs.sim.Sim.new.Goals as goal

pub invariant_of-result : goal.invariant_of-result
invariant_of-result c =
    let P : Machine → Type 0 = λ m. Sound m.core in
    subst P (sym c.in_ok-state.ensures) (new_core-sound c.in_ok-size.size)

pub returns : goal.returns
returns c =
    let made : Machine → SimulatedRing = λ machine. record { machine = machine; made = 0 } in
    (c.in_ok-size.size, c.in_ok-size.ensures.ok, ap made c.in_ok-state.ensures)
