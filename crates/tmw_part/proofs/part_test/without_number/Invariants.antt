use Rattle.tmw_part.proofs.Shared.{length, without_number, ◌++◌, ◌≡◌}
use Rattle.tmw_part.proofs.part_test.without_number.Given as goal

abbrev pub invariant-loop-rest : goal.invariant-loop-rest
invariant-loop-rest l = l.kept.items ++ without_number l.number l.rest ≡ without_number l.number l.places

abbrev pub decreases-loop-rest : goal.decreases-loop-rest
decreases-loop-rest l = length l.rest
