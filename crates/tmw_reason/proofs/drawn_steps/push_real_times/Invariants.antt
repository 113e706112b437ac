use Rattle.tmw_reason.proofs.Shared.{flat_map, real_times, take, ◌++◌, ◌≡◌}
use Rattle.tmw_reason.proofs.drawn_steps.push_real_times.Given as goal

abbrev pub invariant-loop-one : goal.invariant-loop-one
invariant-loop-one l =
    l.steps.items ≡ l.initial.steps.items ++ flat_map (λ one. real_times l.drawn one.place) (take l.one-index l.drawn)
