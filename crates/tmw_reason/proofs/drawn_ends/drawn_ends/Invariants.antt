use Rattle.tmw_reason.proofs.Shared.{ends_of, flat_map, take, ◌≡◌}
use Rattle.tmw_reason.proofs.drawn_ends.drawn_ends.Given as goal

abbrev pub invariant-loop-one : goal.invariant-loop-one
invariant-loop-one l =
    l.ends.items ≡ flat_map ends_of (take l.one-index l.drawn)
