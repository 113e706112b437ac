use Rattle.tmw_lines.proofs.Shared.{arith, take_rest}
use Rattle.tmw_lines.proofs.Pieces.{IsSeen-more, drop-seen}
use Rattle.tmw_lines.proofs.line_piece.seen_on.Goals as goal

pub overflow_add-result : goal.overflow_add-result
overflow_add-result c =
    let more = rw (take_rest c.args.bytes.now c.args.seen) at c.length_before.ensures in
    let s = IsSeen-more c.args.bytes.now c.args.seen c.length_before.result c.requires.seen more in
    omega (arith, s.within, c.requires.few)

pub returns-clause-seen : goal.returns-clause-seen
returns-clause-seen c =
    let more = rw (take_rest c.args.bytes.now c.args.seen) at c.length_before.ensures in
    IsSeen-more c.args.bytes.now c.args.seen c.length_before.result c.requires.seen more

pub returns-clause-stops : goal.returns-clause-stops
returns-clause-stops c = grind (arith, take_rest, drop-seen)
