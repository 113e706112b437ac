-- Nothing was heard yet.
use Rattle.tmw_bench.proofs.Shared.{HasGoneOn, ReaderOf, SameConsumer, received, ◌≡◌}
use Rattle.tmw_bench.proofs.hear_all.hear.Given as goal

abbrev pub invariant-loop : goal.invariant-loop
invariant-loop g l =
    ReaderOf l.ring l.pump.reader × HasGoneOn l.initial.pump l.pump
    × SameConsumer l.initial.line.up l.line.up × (received l.line.up ≡ received l.initial.line.up) × (l.line.down ≡ l.initial.line.down)
