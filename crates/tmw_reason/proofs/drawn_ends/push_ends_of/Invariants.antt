use Rattle.tmw_reason.proofs.Shared.{ends_at, flat_map, take, ◌++◌, ◌≡◌}
use Rattle.tmw_reason.proofs.drawn_ends.push_ends_of.Given as goal

abbrev pub invariant-loop-register : goal.invariant-loop-register
invariant-loop-register l =
    l.ends.items ≡ l.initial.ends.items ++ flat_map (ends_at l.one) (take l.register-index l.register-items)
