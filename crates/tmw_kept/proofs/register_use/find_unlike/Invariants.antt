use Rattle.tmw_kept.proofs.Shared.{None, first_unlike, operations, ◌≡◌}
use Rattle.tmw_kept.proofs.register_use.find_unlike.Given as goal

abbrev pub invariant-loop-op : goal.invariant-loop-op
invariant-loop-op l =
    first_unlike l.register l.known (operations l.op-iterator.0.now) ≡ first_unlike l.register None (operations l.text)
