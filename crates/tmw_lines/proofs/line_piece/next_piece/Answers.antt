-- What was seen has no line feed, and where it is all that is held, none is held.
use Rattle.tmw_lines.proofs.Shared.{ap, append-nil, arith, bytes_of, length, length-append, nil_from_length, ◌∙◌}
use Rattle.tmw_lines.proofs.Pieces.{Reads-more, IsSeen-append, free-seen}
use Rattle.tmw_lines.proofs.line_piece.next_piece.Goals as goal

pub returns-then-length-bytes-clause-piece : goal.returns-then-length-bytes-clause-piece
returns-then-length-bytes-clause-piece g c = grind arith

pub returns-then-length-eq-MOST_HELD-clause-piece : goal.returns-then-length-eq-MOST_HELD-clause-piece
returns-then-length-eq-MOST_HELD-clause-piece g c = grind (arith, free-seen)

pub returns-in-Err-clause-reads : goal.returns-in-Err-clause-reads
returns-in-Err-clause-reads g c = grind (arith, append-nil)

pub returns-in-Err-clause-piece : goal.returns-in-Err-clause-piece
returns-in-Err-clause-piece g c = grind (arith, free-seen)

pub returns-in-Ok-eq0-clause-reads : goal.returns-in-Ok-eq0-clause-reads
returns-in-Ok-eq0-clause-reads g c =
    let more = c.in-Ok-eq0.ensures.more in
    Reads-more c.loop-seen.invariant.0 more.1 more.2

pub returns-in-Ok-eq0-clause-piece : goal.returns-in-Ok-eq0-clause-piece
returns-in-Ok-eq0-clause-piece g c = grind (arith, nil_from_length, append-nil, free-seen)

pub returns-in-Ok-eq0-clause-failures : goal.returns-in-Ok-eq0-clause-failures
returns-in-Ok-eq0-clause-failures g c = c.in-Ok-eq0.ensures.well ∙ c.loop-seen.invariant.3

pub loop-seen-preserved : goal.loop-seen-preserved
loop-seen-preserved g c =
    let seen = rw c.bytes-bytes.ensures.value at c.seen_on-length.ensures.seen in
    let more = c.in-Ok.ensures.more in (
      Reads-more c.loop-seen.invariant.0 more.1 more.2,
      rw more.2 (IsSeen-append (bytes_of c.loop-seen.held) more.0 c.seen_on-length.result seen),
      omega (arith, ap length more.2, length-append (bytes_of c.loop-seen.held) more.0, more.3, c.in-Ok.ensures.falls, c.loop-seen.invariant.2),
      c.in-Ok.ensures.well ∙ c.loop-seen.invariant.3,
    )
