use Rattle.tmw_search.proofs.Shared.{Before, Clear, Has, In, List, ℕ}
use Rattle.tmw_search.proofs.Consequences.{Passed}
use Rattle.tmw_search.proofs.consequence.settle_start.Given as goal

abbrev pub invariant-loop-left : goal.invariant-loop-left
invariant-loop-left l =
    Passed (In l.others) (Before l.j) (λ k (reach : List ℕ). Has reach l.j k) (In l.left) l.fn.reach l.reach Clear

abbrev pub decreases-loop-left : goal.decreases-loop-left
decreases-loop-left l = l.left
