-- Which part of a history is counted beside its verdict: the events up to the one that the verdict names.
use Rattle.std.specs.Prelude.{ℕ, ◌-◌, Bool, true, false, List, length, take}
use Rattle.tmw_events.specs.declared.event.Event.{Event}
use Rattle.tmw_defs.specs.declared.verdict.Verdict.{Verdict}
use Rattle.tmw_defs.specs.declared.verdict.Verdict.TheVariants.{OpaqueSoFar, StrictSoFar, Violated, Undecided, Malformed}

-- How many of so many events are counted: those up to the verdict's event, or before it where the history is malformed, or all.
abbrev pub counted_by : ℕ → Verdict → ℕ
counted_by events OpaqueSoFar = events
counted_by events StrictSoFar = events
counted_by events (Violated at) = at
counted_by events (Undecided at why) = at
counted_by events (Malformed at) = at - 1

-- These events.
abbrev pub part_by : Verdict → List Event → List Event
part_by verdict history = take (counted_by (length history) verdict) history

-- The verdict says that nothing is wrong so far.
abbrev pub is_open : Verdict → Bool
is_open OpaqueSoFar = true
is_open StrictSoFar = true
is_open _ = false
