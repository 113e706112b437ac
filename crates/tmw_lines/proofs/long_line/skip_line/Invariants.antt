use Rattle.tmw_lines.proofs.Shared.{◌≡◌}
use Rattle.tmw_lines.proofs.LongLines.{HasSkipped}
use Rattle.tmw_lines.proofs.long_line.skip_line.Given as goal

abbrev pub invariant-parts : goal.invariant-parts
invariant-parts g l =
    HasSkipped g.S.Source.from l.initial.source l.source
    × (g.S.Source.from.failures l.source ≡ g.S.Source.from.failures l.initial.source)

abbrev pub decreases-parts : goal.decreases-parts
decreases-parts g l = g.S.Source.from.left l.source
