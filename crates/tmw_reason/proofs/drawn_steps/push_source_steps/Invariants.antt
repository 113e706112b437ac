use Rattle.tmw_reason.proofs.Shared.{flat_map, steps_with, take, ◌++◌, ◌≡◌}
use Rattle.tmw_reason.proofs.drawn_steps.push_source_steps.Given as goal

abbrev pub invariant-loop-one : goal.invariant-loop-one
invariant-loop-one l =
    l.steps.items ≡ l.initial.steps.items ++ flat_map (steps_with l.source) (take l.one-index l.drawn)
