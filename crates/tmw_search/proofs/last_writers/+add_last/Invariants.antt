use Rattle.tmw_search.proofs.Shared.{bit_and, bit_not, effects, members, ordered, slice_set, w8, ℕ, ◌≡◌}
use Rattle.tmw_search.proofs.AddMembers.{AddsEach}
use Rattle.tmw_search.proofs.LastWriters.{LeavesAt}
use Rattle.tmw_search.proofs.last_writers.+add_last.Given as goal

abbrev pub decreases-add_last : goal.decreases-add_last
decreases-add_last l = l.registers

abbrev pub invariant-loop-left : goal.invariant-loop-left
invariant-loop-left l = record {
  adds : AddsEach (LeavesAt (effects l.items) l.start (ordered l.node l.reach) l.register l.registers l.end)
      (bit_and l.writers (bit_not w8 l.before)) l.left (members l.fn.found.ends) (members l.found.ends);
  others : (v : ℕ) → slice_set l.chosen l.register v ≡ slice_set l.end l.register v;
  cap : l.found.cap ≡ l.fn.found.cap;
}

abbrev pub decreases-loop-left : goal.decreases-loop-left
decreases-loop-left l = l.left
