use Rattle.tmw_lines.proofs.Shared.{IsSeen, Reads, bytes_of, length, ◌+◌, ◌≡◌, ◌≤◌}
use Rattle.tmw_lines.proofs.line_piece.next_piece.Given as goal

abbrev pub invariant-loop-seen : goal.invariant-loop-seen
invariant-loop-seen g l =
    Reads g.S.Source.from l.initial.source l.source (bytes_of l.initial.held) (bytes_of l.held)
    × IsSeen l.seen (bytes_of l.held)
    × (g.S.Source.from.left l.source + length (bytes_of l.held) ≤ g.S.Source.from.left l.initial.source + length (bytes_of l.initial.held))
    × (g.S.Source.from.failures l.source ≡ g.S.Source.from.failures l.initial.source)

abbrev pub decreases-loop-seen : goal.decreases-loop-seen
decreases-loop-seen g l = g.S.Source.from.left l.source
