-- Nothing was told yet.
use Rattle.tmw_workers.proofs.Shared.{SameProducer, sent, ◌≡◌}
use Rattle.tmw_workers.proofs.waits.tell.Given as goal

abbrev pub invariant-loop : goal.invariant-loop
invariant-loop g l = SameProducer l.initial.to l.to × (sent l.to ≡ sent l.initial.to) × (l.told ≡ l.initial.told)
