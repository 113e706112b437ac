use Rattle.tmw_reason.proofs.Shared.{AreAmong, IsContradictedIn, IsFalse, IsTrue, length, remove, ℕ, ◌<◌, ◌≡◌, ◌≤◌}
use Rattle.tmw_reason.proofs.prune_steps.leave_out_each.Given as goal

abbrev pub invariant-loop-place : goal.invariant-loop-place
invariant-loop-place l = record {
  within : l.place ≤ length l.steps.items;
  reason : IsContradictedIn l.judged l.assumed l.end l.fn.steps.items → IsContradictedIn l.judged l.assumed l.end l.steps.items;
  among : AreAmong l.fn.steps.items l.steps.items;
  fewer : IsTrue l.out → length l.steps.items < length l.fn.steps.items;
  all : IsFalse l.out → l.steps.items ≡ l.fn.steps.items;
  needed : IsFalse l.out → (i : ℕ) → l.place ≤ i → i < length l.steps.items
      → IsContradictedIn l.judged l.assumed l.end (remove l.steps.items i) → ⊥;
}

abbrev pub decreases-loop-place : goal.decreases-loop-place
decreases-loop-place l = l.place
