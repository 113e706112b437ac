-- The steps so far were made and answered, and there is room for the other replies.
use Rattle.tmw_ring_steps.proofs.Shared.{Sound, length, take, vec_capacity, vec_len, ◌≡◌, ◌≤◌}
use Rattle.tmw_ring_steps.proofs.Runs.{HasRun}
use Rattle.tmw_ring_steps.proofs.sim.Sim.run.Given as goal

abbrev pub invariant-loop-step : goal.invariant-loop-step
invariant-loop-step l =
    HasRun l.fn.self (take l.step-index l.steps) l.said.items l.self
    × (vec_len l.said ≡ l.step-index) × (length l.steps ≤ vec_capacity l.said) × Sound l.self.machine.core
