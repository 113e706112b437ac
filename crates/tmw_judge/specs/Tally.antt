-- Which events of a trace are counted beside their verdict: those up to the verdict's event, before it where the history is malformed,
-- or all. With two verdicts the larger number of them is counted.
use Rattle.tmw_judge.specs.Shared.{Asked, Bounds, Event, Header, Summary, Verdict, counted_by, is_open, opacity_of, strict_of, verdict_of}
use Rattle.std.specs.Prelude.{◌≡◌, ◌==◌, ℕ, Bool, true, false, ◌&&◌, ◌||◌, List, length, max, take, Option, Some, None}
use Rattle.tmw_counts.specs.Summary.{IsSummary}
use Rattle.tmw_judge.specs.declared.by_criterion.ByCriterion.{ByCriterion}
use Rattle.tmw_judge.specs.declared.by_criterion.ByCriterion.TheVariants.{Opacity, Strict, Both}
use Rattle.tmw_judge.specs.declared.monitors.Monitors.{Monitors}
use Rattle.tmw_judge.specs.declared.judges.Judges.{Judges}
use Rattle.tmw_judge.specs.Judge.{AreFed}
use Rattle.tmw_judge.specs.declared.monitors.Monitors.TheVariants as monitors

-- How many of so many events are counted.
abbrev pub counted_of : ℕ → ByCriterion Verdict → ℕ
counted_of events (Opacity verdict) = counted_by events verdict
counted_of events (Strict verdict) = counted_by events verdict
counted_of events (Both opacity strict) = max (counted_by events opacity) (counted_by events strict)

abbrev pub verdicts_of : Monitors → ByCriterion Verdict
verdicts_of (monitors.Opacity monitor) = Opacity (verdict_of monitor)
verdicts_of (monitors.Strict monitor) = Strict (verdict_of monitor)
verdicts_of (monitors.Both both) = Both (verdict_of (opacity_of both)) (verdict_of (strict_of both))

-- The prefix of a history that is counted.
abbrev pub counted_part : ByCriterion Verdict → List Event → List Event
counted_part verdicts history = take (counted_of (length history) verdicts) history

-- What it means that a value has counted this history of a run with so many registers.
abbrev pub CountsFor : Type 0 → Type 1
CountsFor C = ℕ → List Event → C → Type 0

-- The monitors have been fed this history, and the prefix of it that is counted has been counted.
pub record AreJudged {C F : Type 0} (Counts : CountsFor C) (header : Header) (bounds : Bounds) (asked : Asked) (history : List Event)
    (judges : Judges C F) : Type 0 where
  pub fed : AreFed header bounds asked history judges.monitors
  pub counted : Counts header.registers.number (counted_part (verdicts_of judges.monitors) history) judges.counting

-- It is told of monitors whether the counted prefix of the history that they have been fed is all of it.
abbrev pub TellsCovered : Monitors → Bool → Type 0
TellsCovered had told = (header : Header) (bounds : Bounds) (asked : Asked) (history : List Event)
    → AreFed header bounds asked history had → told ≡ (counted_of (length history) (verdicts_of had) == length history)

-- One of these verdicts says that nothing is wrong so far.
abbrev pub any_open : ByCriterion Verdict → Bool
any_open (Opacity verdict) = is_open verdict
any_open (Strict verdict) = is_open verdict
any_open (Both opacity strict) = is_open opacity || is_open strict

-- Each of these does.
abbrev pub all_open : ByCriterion Verdict → Bool
all_open (Opacity verdict) = is_open verdict
all_open (Strict verdict) = is_open verdict
all_open (Both opacity strict) = is_open opacity && is_open strict

-- What this history has shown is told if it is counted, and else nothing.
abbrev pub HasSummary : Bool → List Event → Option Summary → Type 0
HasSummary true history (Some summary) = IsSummary history summary
HasSummary true history None = ⊥
HasSummary false history (Some summary) = ⊥
HasSummary false history None = Unit {0}
