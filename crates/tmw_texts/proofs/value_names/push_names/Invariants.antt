use Rattle.std.proofs.Common.{length, ◌++◌, ◌+◌, ◌≡◌}
use Rattle.tmw_texts.specs.ValueNames.{names_from}
use Rattle.tmw_texts.proofs.value_names.push_names.Given as goal

abbrev pub invariant-loop-rest : goal.invariant-loop-rest
invariant-loop-rest l =
    (l.text.items ++ names_from l.place l.rest ≡ l.initial.text.items ++ names_from 0 l.values)
    × (l.place + length l.rest ≡ length l.values)

abbrev pub decreases-loop-rest : goal.decreases-loop-rest
decreases-loop-rest l = length l.rest
