use Rattle.tmw_lines.proofs.BufferBytes.{AreMoved}
use Rattle.tmw_lines.proofs.line_buffer.move_to_front.Given as goal

abbrev pub invariant-loop-index : goal.invariant-loop-index
invariant-loop-index l = AreMoved l.index l.start l.bytes l.initial.bytes
