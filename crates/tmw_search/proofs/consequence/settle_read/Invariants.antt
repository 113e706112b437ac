use Rattle.tmw_search.proofs.Shared.{In, IsOut, List, Out, ℕ}
use Rattle.tmw_search.proofs.Consequences.{Passed}
use Rattle.tmw_search.proofs.consequence.settle_read.Given as goal

abbrev pub invariant-loop-left : goal.invariant-loop-left
invariant-loop-left l =
    Passed (In l.writers) (λ k. Out k l.i l.j) (λ k (reach : List ℕ). IsOut reach k l.i l.j) (In l.left) l.initial.reach l.reach l.found

abbrev pub decreases-loop-left : goal.decreases-loop-left
decreases-loop-left l = l.left
