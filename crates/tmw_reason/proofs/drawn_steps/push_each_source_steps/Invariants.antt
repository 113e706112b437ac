use Rattle.tmw_reason.proofs.Shared.{flat_map, source_steps, take, ◌++◌, ◌≡◌}
use Rattle.tmw_reason.proofs.drawn_steps.push_each_source_steps.Given as goal

abbrev pub invariant-loop-source : goal.invariant-loop-source
invariant-loop-source l =
    l.steps.items ≡ l.initial.steps.items ++ flat_map (source_steps l.drawn) (take l.source-index l.sources)
