use Rattle.tmw_lines.proofs.Shared.{arith}
use Rattle.tmw_lines.proofs.BufferBytes.{between-less}
use Rattle.tmw_lines.proofs.line_buffer.LineBuffer.consume.Goals as goal

pub returns : goal.returns
returns c = grind (arith, between-less)
