-- What was told so far is what the reader of lines has read, and the taker was given its items.
use Rattle.tmw_lines.proofs.Shared.{unread, ◌+◌, ◌≡◌}
use Rattle.tmw_lines.proofs.GiveItems.{HasGiven}
use Rattle.tmw_lines.proofs.items.give_items.Given as goal

abbrev pub invariant-lines : goal.invariant-lines
invariant-lines g l =
    HasGiven g.F.LineFormat.grammar g.S.Source.from g.T.Taker.taking l.fn.source l.source l.fn.lines l.lines
    l.fn.taker l.taker
    × (g.S.Source.from.failures l.source ≡ g.S.Source.from.failures l.fn.source)
    × g.T.Taker.taking.counts l.taker l.lines.count

abbrev pub decreases-lines : goal.decreases-lines
decreases-lines g l = g.S.Source.from.left l.source + unread l.lines
