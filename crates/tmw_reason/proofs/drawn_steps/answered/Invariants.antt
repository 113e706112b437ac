use Rattle.tmw_reason.proofs.Shared.{answered, answered_too, operations, ◌≡◌}
use Rattle.tmw_reason.proofs.drawn_steps.answered.Given as goal

abbrev pub invariant-loop-op : goal.invariant-loop-op
invariant-loop-op l =
    answered_too l.registers.items (operations l.op-iterator.0.now) ≡ answered l.one
