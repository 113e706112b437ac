use Rattle.tmw_search.proofs.Shared.{bit_at, effects, left_at, ℕ, ◌<◌, ◌≡◌}
use Rattle.tmw_search.proofs.last_writers.least.Given as goal

abbrev pub invariant-loop-left : goal.invariant-loop-left
invariant-loop-left l = record {
  within : l.least.place < 8;
  one : bit_at l.mask l.least.place ≡ 1;
  value : l.least.value ≡ left_at (effects l.items) l.least.place l.register;
  among : (i : ℕ) → bit_at l.left i ≡ 1 → bit_at l.mask i ≡ 1;
}

abbrev pub decreases-loop-left : goal.decreases-loop-left
decreases-loop-left l = l.left
