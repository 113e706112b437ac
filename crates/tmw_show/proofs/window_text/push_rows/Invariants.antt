-- What is written and what is still to be written are all; the places go on.
use Rattle.tmw_show.proofs.Shared.{length, rows_text, ◌++◌, ◌+◌, ◌≡◌}
use Rattle.tmw_show.proofs.window_text.push_rows.Given as goal

abbrev pub invariant-loop-rest_marks : goal.invariant-loop-rest_marks
invariant-loop-rest_marks l =
    (l.text.items ++ rows_text l.fn.told l.fn.width l.fn.legend.names.now l.fn.legend.values.now l.fn.before l.place l.rest_marks l.rest
    ≡ l.fn.text.items ++ rows_text l.fn.told l.fn.width l.fn.legend.names.now l.fn.legend.values.now l.fn.before 0 l.fn.marks l.fn.events)
    × (l.place + length l.rest ≡ length l.fn.events)

abbrev pub decreases-loop-rest_marks : goal.decreases-loop-rest_marks
decreases-loop-rest_marks l = length l.rest_marks
