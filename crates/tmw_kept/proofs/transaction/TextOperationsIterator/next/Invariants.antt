use Rattle.tmw_kept.proofs.Shared.{length, operations, ◌≡◌}
use Rattle.tmw_kept.proofs.transaction.TextOperationsIterator.next.Given as goal

abbrev pub invariant-loop-self : goal.invariant-loop-self
invariant-loop-self l = operations l.self.0.now ≡ operations l.fn.self.0.now

abbrev pub decreases-loop-self : goal.decreases-loop-self
decreases-loop-self l = length l.self.0.now
