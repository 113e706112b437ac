use Rattle.tmw_kept.proofs.Shared.{None, operations, ◌≡◌}
use Rattle.tmw_cuts.specs.RegisterUse.{left_by}
use Rattle.tmw_kept.proofs.register_use.left_by.Given as goal

abbrev pub invariant-loop-op : goal.invariant-loop-op
invariant-loop-op l = left_by l.register l.left (operations l.op-iterator.0.now) ≡ left_by l.register None (operations l.text)
