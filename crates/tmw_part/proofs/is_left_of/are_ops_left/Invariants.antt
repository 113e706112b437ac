use Rattle.tmw_part.proofs.Shared.{are_ops_left, is_unread, operations, ◌≡◌}
use Rattle.tmw_part.proofs.is_left_of.are_ops_left.Given as goal

abbrev pub invariant-loop-op : goal.invariant-loop-op
invariant-loop-op l =
    are_ops_left (is_unread l.part) (operations l.rest) (operations l.op-iterator.0.now)
    ≡ are_ops_left (is_unread l.part) (operations l.left) (operations l.whole)
