-- What a run in which nothing is wrong did not test, with the names that the bench in C prints.
use Rattle.tmw_judge.specs.Shared.{Summary}
use Rattle.std.specs.Prelude.{ℕ, ◌==◌, ◌/◌, Bool, true, false, List, [], codes, nat_lt, if◌then◌else◌}
use Rattle.tmw_defs.specs.declared.counts.Counts.{Counts}
use Rattle.tmw_judge.specs.declared.meeting.Meeting.{Meeting}
use Rattle.tmw_judge.specs.declared.meeting.Meeting.TheVariants.{Alone, Apart, Together}
use Rattle.tmw_judge.specs.declared.progress.Progress.{Progress}
use Rattle.tmw_judge.specs.declared.progress.Progress.TheVariants.{Nothing, Little, Enough}

-- Some transactions have overlapped, or none has, of two threads or more or of at most one.
abbrev pub meeting_of : Summary → Meeting
meeting_of summary =
    if summary.counts.overlapping == 0 then (if summary.none_overlapped then Apart else Alone) else Together

-- No transaction has committed; or fewer than one in twenty, so that nearly all were refused; or more.
abbrev pub progress_of : Counts → Progress
progress_of counts =
    if counts.committed == 0 then Nothing
    else (if nat_lt counts.committed (counts.transactions / 20) then Little else Enough)

-- What the run did not test, in a line of compact JSON, if there is anything.
abbrev pub lacks_line : Meeting → Progress → List ℕ
lacks_line Alone Nothing = codes "{\"untested\":[\"threads\",\"commits\"]}\n"
lacks_line Alone Little = codes "{\"untested\":[\"threads\",\"progress\"]}\n"
lacks_line Alone Enough = codes "{\"untested\":[\"threads\"]}\n"
lacks_line Apart Nothing = codes "{\"untested\":[\"overlap\",\"commits\"]}\n"
lacks_line Apart Little = codes "{\"untested\":[\"overlap\",\"progress\"]}\n"
lacks_line Apart Enough = codes "{\"untested\":[\"overlap\"]}\n"
lacks_line Together Nothing = codes "{\"untested\":[\"commits\"]}\n"
lacks_line Together Little = codes "{\"untested\":[\"progress\"]}\n"
lacks_line Together Enough = []

-- That line, of a run in which nothing is wrong.
abbrev pub lacks_if : Bool → Summary → List ℕ
lacks_if true summary = lacks_line (meeting_of summary) (progress_of summary.counts)
lacks_if false summary = []
