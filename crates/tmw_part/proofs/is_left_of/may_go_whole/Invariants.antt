use Rattle.tmw_part.proofs.Shared.{is_unread, list_all, may_go, operations, ◌≡◌}
use Rattle.tmw_part.proofs.is_left_of.may_go_whole.Given as goal

abbrev pub invariant-loop-op : goal.invariant-loop-op
invariant-loop-op l =
    list_all (may_go (is_unread l.part)) (operations l.op-iterator.0.now)
    ≡ list_all (may_go (is_unread l.part)) (operations l.text)
