use Rattle.tmw_reason.proofs.Shared.{IsTrue, ReasonStep, Some, follows, slice_get, take, ℕ, ◌<◌, ◌≡◌, ◌≤◌}
use Rattle.tmw_reason.proofs.prune_steps.derives.Given as goal

abbrev pub invariant-loop-place : goal.invariant-loop-place
invariant-loop-place l = (i : ℕ) (step : ReasonStep) → l.assumed ≤ i → i < l.place → slice_get l.steps i ≡ Some step
    → IsTrue (follows l.judged.criterion l.judged.states l.judged.transactions (take i l.steps) step)
