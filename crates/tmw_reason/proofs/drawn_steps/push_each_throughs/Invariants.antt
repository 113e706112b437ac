use Rattle.tmw_reason.proofs.Shared.{flat_map, take, throughs, ◌++◌, ◌≡◌}
use Rattle.tmw_reason.proofs.drawn_steps.push_each_throughs.Given as goal

abbrev pub invariant-loop-one : goal.invariant-loop-one
invariant-loop-one l =
    l.steps.items ≡ l.initial.steps.items ++ flat_map (λ one. throughs l.drawn one.place) (take l.one-index l.drawn)
