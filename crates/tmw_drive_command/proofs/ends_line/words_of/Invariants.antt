-- The words so far, as they stand.
use Rattle.tmw_drive_command.specs.EndsLine.{end_data}
use Rattle.std.proofs.Common.{map, take, ◌≡◌}
use Rattle.serde_json.specs.View.{view}
use Rattle.tmw_drive_command.proofs.ends_line.words_of.Given as goal

abbrev pub invariant-loop-end : goal.invariant-loop-end
invariant-loop-end l = map view l.words.items ≡ map end_data (take l.end-index l.ends)
