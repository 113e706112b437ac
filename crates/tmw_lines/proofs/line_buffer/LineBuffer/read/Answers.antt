use Rattle.tmw_lines.proofs.Shared.{arith, length, length-take-le, put_mid, take, ◌+◌, ◌-◌, ◌≡◌, ◌≤◌}
use Rattle.tmw_lines.proofs.BufferBytes.{take-read}
use Rattle.tmw_lines.proofs.line_buffer.LineBuffer.read.Goals as goal

pub returns-clause-more : goal.returns-clause-more
returns-clause-more g c =
    let held = c.args.self.now.end - c.args.self.now.start in
    let count = c.in_ok-count.count in
    let moved = c.move_to_front.new.bytes in
    let new = c.read.new.buffer in
    let one = c.move_to_front.auto.bytes in
    let two = c.read.auto.buffer in
    let within : held ≤ length moved = omega arith in
    let whole : (held + count) - 0 ≡ held + count = omega arith in
    grind (arith, take, put_mid, take-read, length-take-le)
