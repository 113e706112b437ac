-- The law of `show --why`: of each violated run whose last window is not too long a part is shown of which nothing more can be taken out.
use Rattle.tmw_show.specs.Shared.{IsMinimalPart, ShowOptions, members}
use Rattle.std.specs.Prelude.{List, length, true, ℕ, ◌≡◌, ◌≤◌}
use Rattle.tmw_show.specs.NeededEvents.{IsViolation, marks_of}
use Rattle.tmw_show.specs.RunShow.{IsShownOf}
use Rattle.tmw_show.specs.declared.shown_trace.ShownTrace.{ShownTrace}

-- Where it is asked why a run is violated, and its last window has at most 1,000 events, those that are shown of them are a part that is
-- violated by itself from each of the window's states, and minimal. So it is of whatever trace's bytes, by each criterion and within all
-- bounds.
abbrev pub WhyLaw : Type 0
WhyLaw = (options : ShowOptions) (bytes : List ℕ) (shown : ShownTrace) → IsShownOf options bytes shown → options.why ≡ true
    → IsViolation shown.showing.verdict → length shown.showing.events.items ≤ 1000
    → IsMinimalPart options.criterion shown.registers.number (members shown.showing.states) shown.showing.events.items
    (marks_of shown.needed shown.showing.events.items)
