use Rattle.tmw_reason.proofs.Shared.{flat_map, sources_at, take, ◌++◌, ◌≡◌}
use Rattle.tmw_reason.proofs.drawn_steps.push_sources_of.Given as goal

abbrev pub invariant-loop-register : goal.invariant-loop-register
invariant-loop-register l =
    l.sources.items ≡ l.initial.sources.items ++ flat_map (sources_at l.drawn l.reader) (take l.register-index l.register-items)
