use Rattle.tmw_lines.proofs.Shared.{drop, position_or_len, ◌+◌, ◌==◌, ◌≡◌}
use Rattle.tmw_lines.proofs.line_length.length_before.Given as goal

abbrev pub invariant-loop-index : goal.invariant-loop-index
invariant-loop-index l =
    position_or_len (λ byte. byte == l.stop) l.bytes ≡ l.index + position_or_len (λ byte. byte == l.stop) (drop l.index l.bytes)
