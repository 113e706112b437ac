use Rattle.tmw_kept.proofs.Shared.{needs, operations, ◌≡◌}
use Rattle.tmw_kept.proofs.register_use.needs.Given as goal

abbrev pub invariant-loop-op : goal.invariant-loop-op
invariant-loop-op l = needs l.register l.value (operations l.op-iterator.0.now) ≡ needs l.register l.value (operations l.text)
