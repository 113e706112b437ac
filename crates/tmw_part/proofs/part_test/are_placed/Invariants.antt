use Rattle.tmw_part.proofs.Shared.{are_placed, is_unread, length, ◌+◌, ◌≡◌}
use Rattle.tmw_part.proofs.part_test.are_placed.Given as goal

abbrev pub invariant-loop-rest : goal.invariant-loop-rest
invariant-loop-rest l = record {
  same : are_placed (is_unread l.part) l.number l.open.items l.rest ≡ are_placed (is_unread l.part) 0 l.places l.whole;
  count : l.number + length l.rest ≡ length l.whole;
}

abbrev pub decreases-loop-rest : goal.decreases-loop-rest
decreases-loop-rest l = length l.rest
