use Rattle.tmw_reason.proofs.Shared.{All, Contains, DerivesIn, filter, length, not, tells}
use Rattle.tmw_reason.proofs.step_closure.close.Given as goal

abbrev pub invariant-loop-steps : goal.invariant-loop-steps
invariant-loop-steps l = record {
  are : All (Contains l.candidates.steps.items) l.steps.items;
  derives : DerivesIn l.judged (length l.fn.assumed.items) l.steps.items;
}

abbrev pub decreases-loop-steps : goal.decreases-loop-steps
decreases-loop-steps l = length (filter (λ x. not (tells l.steps.items x)) l.candidates.steps.items)
