-- What is still to be put in makes the same state.
use Rattle.tmw_cuts.proofs.Shared.{chosen, length, put, ◌≡◌}
use Rattle.tmw_cuts.proofs.effect.Effect.leave_in.Given as goal

abbrev pub invariant-loop-left : goal.invariant-loop-left
invariant-loop-left l = (length l.state ≡ 8) × (put (chosen l.left) l.self.leaves l.state ≡ put (chosen l.self.left) l.self.leaves l.initial.state)

abbrev pub decreases-loop-left : goal.decreases-loop-left
decreases-loop-left l = l.left
