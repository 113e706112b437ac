use Rattle.tmw_streams.proofs.Shared.{Reads, ◌≡◌}
use Rattle.tmw_streams.proofs.read_to_end.read_all.Given as goal

abbrev pub invariant-reads : goal.invariant-reads
invariant-reads g l =
    Reads g.S.Source.from l.fn.source l.source l.fn.bytes.items l.bytes.items
    × (g.S.Source.from.failures l.source ≡ g.S.Source.from.failures l.fn.source)

abbrev pub decreases-reads : goal.decreases-reads
decreases-reads g l = g.S.Source.from.left l.source
