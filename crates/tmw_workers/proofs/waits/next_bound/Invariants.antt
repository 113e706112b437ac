-- Nothing was taken yet.
use Rattle.tmw_workers.proofs.Shared.{SameConsumer, received, ◌≡◌}
use Rattle.tmw_workers.proofs.waits.next_bound.Given as goal

abbrev pub invariant-loop : goal.invariant-loop
invariant-loop g l = SameConsumer l.initial.down l.down × (received l.down ≡ received l.initial.down)
