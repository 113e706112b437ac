use Rattle.tmw_reason.proofs.Shared.{flat_map, take, throughs_to, ◌++◌, ◌≡◌}
use Rattle.tmw_reason.proofs.drawn_steps.push_throughs.Given as goal

abbrev pub invariant-loop-other : goal.invariant-loop-other
invariant-loop-other l =
    l.steps.items ≡ l.initial.steps.items ++ flat_map (λ other. throughs_to l.drawn l.one other.place) (take l.other-index l.drawn)
