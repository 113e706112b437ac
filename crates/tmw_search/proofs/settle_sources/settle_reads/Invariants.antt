use Rattle.tmw_search.proofs.Shared.{In, IsRead, SettledSource, Sourced, slice_index, source_at}
use Rattle.tmw_search.proofs.Consequences.{Passed}
use Rattle.tmw_search.proofs.settle_sources.settle_reads.Given as goal

abbrev pub invariant-loop-left : goal.invariant-loop-left
invariant-loop-left l =
    let c = l.choices in
    Passed (IsRead c l.j) (λ r. Sourced (slice_index c.writers r) l.j (source_at c l.j r))
    (λ r. SettledSource (slice_index c.writers r) l.j (source_at c l.j r)) (In l.left) l.fn.reach l.reach l.found

abbrev pub decreases-loop-left : goal.decreases-loop-left
decreases-loop-left l = l.left
