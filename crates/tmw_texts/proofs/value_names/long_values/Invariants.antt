use Rattle.std.proofs.Common.{length, ◌≡◌}
use Rattle.tmw_texts.specs.ValueNames.{long_values, values_after}
use Rattle.tmw_texts.proofs.value_names.long_values.Given as goal

abbrev pub invariant-loop-rest : goal.invariant-loop-rest
invariant-loop-rest l = values_after l.values l.rest ≡ long_values l.events

abbrev pub decreases-loop-rest : goal.decreases-loop-rest
decreases-loop-rest l = length l.rest
