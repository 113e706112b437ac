use Rattle.tmw_search.proofs.Shared.{bit_or, effects, slice_index}
use Rattle.tmw_search.proofs.Branches.{Branches}
use Rattle.tmw_search.proofs.search.branch_of.Given as goal

abbrev pub invariant-loop-left : goal.invariant-loop-left
invariant-loop-left l =
    Branches (effects l.items) l.node l.j l.r (bit_or (slice_index l.node.choices.writers l.r) l.may) l.writers l.left

abbrev pub decreases-loop-left : goal.decreases-loop-left
decreases-loop-left l = l.left
