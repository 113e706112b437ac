-- How a window is drawn: the states from which it begins, and its events in a column for each thread. Numbers are decimal, without
-- sign and without leading zeros.
use Rattle.tmw_show.specs.Shared.{BrokenRule, Criterion, Event, Malformed, Opacity, OpaqueSoFar, Strict, StrictSoFar, Undecided, Verdict, Violated, blanks, decimal, kept_of, label_at, line, long_values, names_from, shown_kind}
use Rattle.tmw_kept.specs.declared.name_in_window.Name.{Name}
use Rattle.std.specs.Prelude.{Bool, List, None, Option, Some, [], codes, false, if◌then◌else◌, length, max, option_map, take, true, ℕ, ◌*◌, ◌++◌, ◌+◌, ◌-◌, ◌==◌, ◌∷◌}
use Rattle.tmw_defs.specs.declared.verdict.Why.{Why}
use Rattle.tmw_defs.specs.declared.verdict.Why.TheVariants.{Transactions, States}
use Rattle.tmw_wellformed.specs.declared.malformed.Malformed.TheVariants.{Register, Busy, Idle, Mismatch}
use Rattle.tmw_kept.specs.NameInWindow.{names_of}
use Rattle.tmw_show.specs.declared.run_verdict.RunVerdict.{RunVerdict}
use Rattle.tmw_wellformed.specs.declared.malformed.Malformed.{Malformed as Fault}

-- the greatest number of a thread that has one of these events, or 0
abbrev pub last_thread : List Event → ℕ
last_thread [] = 0
last_thread (event ∷ events) = max event.thread.number (last_thread events)

-- the heads of eight columns
abbrev pub all_heads : List ℕ
all_heads = codes "    event  thread 0       thread 1       thread 2       thread 3       thread 4       thread 5       thread 6       thread 7"

-- the heads of the columns up to this thread's, of which each has 15 places
abbrev pub heads_text : ℕ → List ℕ
heads_text last = take (19 + 15 * last) all_heads

-- a number that ends at the ninth place, or beyond it where it is longer
abbrev pub number_text : ℕ → List ℕ
number_text number = blanks (9 - length (decimal number)) ++ decimal number

-- the event of this number, in its thread's column, with the name of its transaction if that begins at this place of the window
abbrev pub event_row : List Name → List ℕ → ℕ → ℕ → Event → List ℕ
event_row names values place number event =
    number_text number ++ (blanks (2 + 15 * event.thread.number) ++ (label_at names place ++ shown_kind values event.kind))

-- the words for what the prefix that ends here is, by the verdict
abbrev pub violated_text : Criterion → List ℕ
violated_text Opacity = codes "violates opacity"
violated_text Strict = codes "violates strict serializability"

abbrev pub undecided_text : Why → List ℕ
undecided_text Transactions = codes "undecided: too many transactions"
undecided_text States = codes "undecided: too many initial states"

-- and for the rule that its last event broke
abbrev pub rule_text : Fault → List ℕ
rule_text Register = codes "malformed: the run has no such register"
rule_text Busy = codes "malformed: this thread already has a pending call"
rule_text Idle = codes "malformed: this thread has no pending call"
rule_text Mismatch = codes "malformed: the answer does not match the call"

abbrev pub malformed_text : Option BrokenRule → List ℕ
malformed_text (Some broken) = rule_text broken.rule
malformed_text None = codes "malformed"

-- what is wrong by the verdict, where anything is
abbrev pub wrong_by : Criterion → Option BrokenRule → Verdict → List ℕ
wrong_by criterion broken (Violated at) = violated_text criterion
wrong_by criterion broken (Undecided at why) = undecided_text why
wrong_by criterion broken (Malformed at) = malformed_text broken
wrong_by criterion broken _ = []

abbrev pub wrong_text : RunVerdict → List ℕ
wrong_text told = wrong_by told.criterion told.broken told.verdict

-- the number of the event that the verdict names, if it names one
abbrev pub settled_at : Verdict → Option ℕ
settled_at OpaqueSoFar = None
settled_at StrictSoFar = None
settled_at (Violated at) = Some at
settled_at (Undecided at why) = Some at
settled_at (Malformed at) = Some at

-- and its number in the whole run
abbrev pub marked_at : RunVerdict → Option ℕ
marked_at told = option_map (λ at. told.before + at) (settled_at told.verdict)

-- what is told of the event of this number: what is wrong, where this one has the mark, and else nothing
abbrev pub told_by_mark : RunVerdict → ℕ → Option ℕ → List ℕ
told_by_mark told number None = []
told_by_mark told number (Some at) = if at == number then wrong_text told else []

abbrev pub told_text : RunVerdict → ℕ → List ℕ
told_text told number = told_by_mark told number (marked_at told)

-- what is told stands two places behind the heads, or behind a row that is longer than they
abbrev pub beside : ℕ → List ℕ → List ℕ
beside gap [] = []
beside gap (first ∷ rest) = blanks gap ++ (codes "  " ++ first ∷ rest)

abbrev pub told_row : ℕ → List ℕ → List ℕ → List ℕ
told_row width row told = row ++ beside (width - length row) told

-- a line for each event that has the mark. The first has this place in the window, behind which its number is one more than so many.
abbrev pub rows_text : RunVerdict → ℕ → List Name → List ℕ → ℕ → ℕ → List Bool → List Event → List ℕ
rows_text told width names values before place [] events = []
rows_text told width names values before place (mark ∷ marks) [] = []
rows_text told width names values before place (false ∷ marks) (event ∷ events) =
    rows_text told width names values before (place + 1) marks events
rows_text told width names values before place (true ∷ marks) (event ∷ events) =
    line (told_row width (event_row names values place (before + (place + 1)) event) (told_text told (before + (place + 1))))
    ++ rows_text told width names values before (place + 1) marks events

-- the heads of the columns that these events need
abbrev pub heads_for : List Event → List ℕ
heads_for events = heads_text (last_thread events)

-- The line of the heads, a line for each event that has the mark, and one for each short name. So many events
-- of the run stand before the first.
abbrev pub window_text : RunVerdict → ℕ → List Bool → List Event → List ℕ
window_text told before marks events =
    let kept = kept_of marks events in
    line (heads_for kept)
    ++ (rows_text told (length (heads_for kept)) (names_of marks events) (long_values kept) before 0 marks events
    ++ names_from 0 (long_values kept))
