use Rattle.tmw_search.proofs.Shared.{effects, left_at, members, slice_set, ℕ, ◌≡◌}
use Rattle.tmw_search.proofs.AddMembers.{AddsEach}
use Rattle.tmw_search.proofs.last_writers.add_each.Given as goal

abbrev pub invariant-loop-left : goal.invariant-loop-left
invariant-loop-left l = record {
  adds : AddsEach (λ i e. e ≡ slice_set l.end l.register (left_at (effects l.items) i l.register)) l.mask l.left (members l.fn.found.ends)
      (members l.found.ends);
  others : (v : ℕ) → slice_set l.chosen l.register v ≡ slice_set l.end l.register v;
  cap : l.found.cap ≡ l.fn.found.cap;
}

abbrev pub decreases-loop-left : goal.decreases-loop-left
decreases-loop-left l = l.left
