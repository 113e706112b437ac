-- The lines before the rest were taken.
use Rattle.tmw_lines.proofs.Shared.{AreTaken, drop, length, ◌+◌, ◌-◌, ◌<◌, ◌^◌, ◌≡◌, ◌≤◌}
use Rattle.tmw_lines.proofs.give_lines.give_lines.Given as goal

abbrev pub invariant-loop-more : goal.invariant-loop-more
invariant-loop-more g l =
    (l.count + length l.rest < 2 ^ 40) × (length l.rest ≤ length l.bytes) × (l.rest ≡ drop (length l.bytes - length l.rest) l.bytes)
    × AreTaken g.F.LineFormat.grammar g.T.Taker.taking l.format l.bytes l.read l.fn.taker l.taker
    (length l.bytes - length l.rest) l.count

abbrev pub decreases-loop-more : goal.decreases-loop-more
decreases-loop-more g l = length l.rest
