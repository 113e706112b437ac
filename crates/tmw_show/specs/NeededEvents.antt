-- Which events of a window are shown: all, or those that contradict each other, where it is asked why the window is violated.
use Rattle.tmw_show.specs.Shared.{Criterion, Event, FindsPart, Reason, Registers, Verdict, Violated, all_kept, decimal, kept_of, line, members}
use Rattle.std.specs.Prelude.{Bool, List, None, Option, [], codes, false, if◌then◌else◌, length, nat_lt, true, ℕ, ◌++◌, ◌≡◌}
use Rattle.tmw_reason.specs.DrawnSteps.{drawn_of}
use Rattle.tmw_reason.specs.FindReason.{FindsReason}
use Rattle.tmw_window.specs.declared.shown_window.ShownWindow.{ShownWindow}
use Rattle.tmw_show.specs.declared.needed_events.NeededEvents.{NeededEvents}
use Rattle.tmw_show.specs.declared.shown_trace.ShownTrace.{ShownTrace}
use Rattle.tmw_show.specs.declared.needed_events.NeededEvents.TheVariants.{Unasked, NotViolated, Part}

-- The verdict is that the run is violated.
abbrev pub IsViolation : Verdict → Type 0
IsViolation verdict = (at : ℕ) × (verdict ≡ Violated at)

-- Only where it is asked why a window is violated that is, a part of it is found, and a reason why the window is of what is drawn.
abbrev pub IsNeededOf : Criterion → Bool → Registers → ShownWindow → NeededEvents → Type 0
IsNeededOf criterion why registers showing Unasked = why ≡ false
IsNeededOf criterion why registers showing NotViolated = (why ≡ true) × (IsViolation showing.verdict → ⊥)
IsNeededOf criterion why registers showing (Part marks reason) = (why ≡ true)
    × IsViolation showing.verdict × FindsPart criterion registers.number (members showing.states) showing.events.items marks.items
    × FindsReason criterion (members showing.states) showing.events.items (drawn_of marks.items showing.events.items) reason

-- This is what is shown, where it is so asked, of a run with so many registers whose last window this is.
pub record IsShownFor (criterion : Criterion) (why : Bool) (registers : Registers) (showing : ShownWindow) (shown : ShownTrace) : Type 0 where
  pub same_registers : shown.registers ≡ registers
  pub same_showing : shown.showing ≡ showing
  pub needed : IsNeededOf criterion why registers showing shown.needed

-- The marks of the events that are shown.
abbrev pub marks_of : NeededEvents → List Event → List Bool
marks_of (Part marks reason) events = marks.items
marks_of _ events = all_kept events

-- The reason that is told, if one is.
abbrev pub reason_of : NeededEvents → Option Reason
reason_of (Part marks reason) = reason
reason_of _ = None

-- how many events of how many are shown: of more than 1,000 all are, since only in fewer a part is searched for
abbrev pub part_words : ℕ → ℕ → List ℕ
part_words shown all =
    if nat_lt 1000 all
    then codes "all events: of more than 1000 no part is searched for"
    else decimal shown ++ (codes " of " ++ (decimal all ++ codes " events, violated by themselves"))

-- the line that says so, where it is asked why the window is violated
abbrev pub needed_text : NeededEvents → List Event → List ℕ
needed_text Unasked events = []
needed_text NotViolated events = line (codes "    part   all events: the run isn't violated")
needed_text (Part marks reason) events = line (codes "    part   " ++ part_words (length (kept_of marks.items events)) (length events))
