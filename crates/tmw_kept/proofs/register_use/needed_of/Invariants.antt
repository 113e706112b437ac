use Rattle.tmw_kept.proofs.Shared.{needed_of, operations, ◌≡◌}
use Rattle.tmw_kept.proofs.register_use.needed_of.Given as goal

abbrev pub invariant-loop-op : goal.invariant-loop-op
invariant-loop-op l =
    needed_of l.register (operations l.op-iterator.0.now) ≡ needed_of l.register (operations l.text)
