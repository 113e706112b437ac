use Rattle.tmw_reason.proofs.Shared.{flat_map, sources_of, take, ◌≡◌}
use Rattle.tmw_reason.proofs.drawn_steps.drawn_sources.Given as goal

abbrev pub invariant-loop-reader : goal.invariant-loop-reader
invariant-loop-reader l =
    l.sources.items ≡ flat_map (sources_of l.drawn) (take l.reader-index l.drawn)
