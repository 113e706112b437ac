-- The page that draws a window: a constant head, what is shown as one JSON object, and a constant tail. Of a trace the object has digits,
-- the letters of events and blanks alone, within strings, and numbers.
use Rattle.tmw_show.specs.Shared.{Criterion, Event, Opacity, Reason, Registers, State, Strict, decimal, flat_map, list_json, members, report_by, values_text}
use Rattle.tmw_events.specs.Text.{event_text}
use Rattle.std.specs.Prelude.{Bool, List, None, Option, Some, [], codes, false, take, true, ℕ, ◌++◌, ◌+◌, ◌∷◌}
use Rattle.tmw_show.specs.Drawing.{marked_at, wrong_text}
use Rattle.tmw_show.specs.declared.page.constants.TheConstants.{HEAD, TAIL}
use Rattle.tmw_show.specs.declared.needed_events.NeededEvents.{NeededEvents}
use Rattle.tmw_show.specs.declared.needed_events.NeededEvents.TheVariants.{Part}
use Rattle.tmw_show.specs.declared.frame.Frame.TheVariants.{Clause}
use Rattle.tmw_show.specs.NeededEvents.{reason_of}
use Rattle.tmw_show.specs.Sentences.{reason_text}
use Rattle.tmw_show.specs.declared.shown_trace.ShownTrace.{ShownTrace}
use Rattle.tmw_show.specs.declared.run_verdict.RunVerdict.{RunVerdict}

-- a state as a string behind a comma: what the run's registers hold, each value after one space
abbrev pub state_json : Registers → State → List ℕ
state_json registers state = codes ",\"" ++ (values_text (take registers.number state) ++ 34 ∷ [])

-- an event as a string behind a comma: its line in a trace
abbrev pub event_json : Event → List ℕ
event_json event = codes ",\"" ++ (event_text event ++ 34 ∷ [])

-- both lists
abbrev pub window_json : Registers → List State → List Event → List ℕ
window_json registers states events =
    codes ",\"states\":["
    ++ (list_json (state_json registers) states ++ (codes "],\"events\":[" ++ (list_json event_json events ++ codes "]")))

-- the criterion's name
abbrev pub criterion_name : Criterion → List ℕ
criterion_name Opacity = codes "opacity"
criterion_name Strict = codes "strict"

-- the line that `judge` writes, the criterion, how many registers there are, and how many events of the run stand before the window
abbrev pub about_json : Criterion → ℕ → ShownTrace → List ℕ
about_json criterion before shown =
    codes "{\"report\":"
    ++ (report_by criterion shown.showing.fed shown.showing.verdict
    ++ (codes ",\"criterion\":\""
    ++ (criterion_name criterion
    ++ (codes "\",\"registers\":" ++ (decimal shown.registers.number ++ (codes ",\"before\":" ++ decimal before))))))

-- What is told of the event at which something is wrong, where so many events of the run come before the trace.
abbrev pub told_of : Criterion → ℕ → ShownTrace → RunVerdict
told_of criterion before shown =
    record { criterion = criterion; before = before; verdict = shown.showing.verdict; broken = shown.showing.broken }

-- that event, and the text of the verdict beside it
abbrev pub mark_at : RunVerdict → Option ℕ → List ℕ
mark_at told None = []
mark_at told (Some at) = codes ",\"mark\":" ++ (decimal at ++ (codes ",\"verdict_text\":\"" ++ (wrong_text told ++ codes "\"")))

abbrev pub mark_json : RunVerdict → List ℕ
mark_json told = mark_at told (marked_at told)

-- of a violated window of which that is asked: a digit for each event, 1 for those that contradict each other
abbrev pub digit : Bool → ℕ
digit true = 49
digit false = 48

abbrev pub needed_json : NeededEvents → List ℕ
needed_json (Part marks reason) = codes ",\"needed\":\"" ++ (flat_map (λ mark. digit mark ∷ []) marks.items ++ codes "\"")
needed_json _ = []

-- and the reason, if one is told of a window before which so many events stand, with each value in digits
abbrev pub why_json : ℕ → List State → List Event → Option Reason → List ℕ
why_json before states window None = []
why_json before states window (Some reason) = codes ",\"why\":\"" ++ (reason_text Clause [] before states window reason ++ codes "\"")

-- what is shown, as one JSON object and a line feed
abbrev pub json_text : Criterion → ℕ → ShownTrace → List ℕ
json_text criterion before shown =
    about_json criterion (before + shown.showing.from) shown
    ++ (window_json shown.registers (members shown.showing.states) shown.showing.events.items
    ++ (mark_json (told_of criterion before shown)
    ++ (needed_json shown.needed
    ++ (why_json (before + shown.showing.from) (members shown.showing.states) shown.showing.events.items (reason_of shown.needed)
    ++ codes "}\n"))))

-- the page
abbrev pub page_text : Criterion → ℕ → ShownTrace → List ℕ
page_text criterion before shown = HEAD.now ++ (json_text criterion before shown ++ TAIL.now)
