use Rattle.tmw_lines.proofs.Shared.{arith}
use Rattle.tmw_lines.proofs.BufferBytes.{AreMoved-more}
use Rattle.tmw_lines.proofs.line_buffer.move_to_front.Goals as goal

pub loop-index-preserved : goal.loop-index-preserved
loop-index-preserved c =
    AreMoved-more c.loop-index.index c.args.start c.loop-index.bytes c.args.bytes.now c.loop-index.invariant (omega arith)
