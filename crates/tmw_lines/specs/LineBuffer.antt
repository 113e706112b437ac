-- The bytes that a reader holds.
use Rattle.std.specs.Prelude.{ℕ, ◌-◌, List, take, drop}
use Rattle.tmw_lines.specs.declared.line_buffer.LineBuffer.{LineBuffer}

-- what was read and is still to be used, in order
abbrev pub bytes_of : LineBuffer → List ℕ
bytes_of held = take (held.end - held.start) (drop held.start held.buffer)
