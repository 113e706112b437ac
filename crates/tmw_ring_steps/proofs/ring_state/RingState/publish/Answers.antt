use Rattle.tmw_ring_steps.proofs.Shared.{Some, ap, arith, core_of, length, sym, ◌∙◌}
use Rattle.tmw_ring_steps.proofs.SoundWords.{claimed_small, has_writer}
use Rattle.tmw_ring_steps.proofs.ring_state.RingState.publish.Goals as goal

pub overflow_add-place : goal.overflow_add-place
overflow_add-place c =
    let claimed = sym c.in-Some.ensures ∙ ap Some c.in-Claimed.is in
    let small = claimed_small (core_of c.args.self.now) c.args.writer.number c.in-Claimed.place c.in-Claimed.kind c.in-Claimed.filled c.requires claimed in
    omega (arith, small)

pub set_phase-requires : goal.set_phase-requires
set_phase-requires c =
    let below = has_writer (core_of c.args.self.now) c.args.writer.number c.in-Some.phase (sym c.in-Some.ensures) in
    omega (arith, below, ap (λ m. length m.core.writers) c.set_cell.ensures)
