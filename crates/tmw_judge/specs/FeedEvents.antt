-- What is read where the events of a trace are fed to its judges as their lines are read, up to the end or, by `--first`, up to the event
-- at which all verdicts are final.
use Rattle.tmw_judge.specs.Shared.{Asked, Bounds, End, EndsBehind, Event, FailsHolding, FromSource, HasFirstLineFault, HasRead, Header, Lines, Memory, Reached, Stop, Taking, Tells, TextFault, Version, trace_grammar, unread_bytes}
use Rattle.std.specs.Prelude.{◌≡◌, ◌⊎◌, ℕ, Bool, true, false, IsTrue, Result, Ok, Err, List, [], ◌∷◌, ◌++◌, length}
use Rattle.tmw_lines.specs.LineFeeds.{HoldsFront}
use Rattle.tmw_judge.specs.declared.monitors.Monitors.{Monitors}
use Rattle.tmw_judge.specs.Answer.{AreOpenBefore}
use Rattle.tmw_judge.specs.Tally.{any_open, AreJudged, CountsFor, verdicts_of}
use Rattle.tmw_judge.specs.declared.judges.Judges.{Judges}
use Rattle.tmw_judge.specs.Judge.{AreFed}

-- From the one to the other each monitor has been fed the event.
abbrev pub FeedsEach : Monitors → Event → Monitors → Type 0
FeedsEach old event new = (header : Header) (bounds : Bounds) (asked : Asked) (history : List Event)
    → AreFed header bounds asked history old → AreFed header bounds asked (history ++ event ∷ []) new

-- From the one to the other the judges have been fed these events.
abbrev pub TakeEvents : {C F : Type 0} → CountsFor C → Judges C F → List Event → Judges C F → Type 0
TakeEvents Counts old events new = (header : Header) (bounds : Bounds) (asked : Asked) (history : List Event)
    → AreJudged Counts header bounds asked history old → AreJudged Counts header bounds asked (history ++ events) new

-- They have been fed a history of so many events.
pub record AreFedSoMany {C F : Type 0} (Counts : CountsFor C) (judges : Judges C F) (count : ℕ) : Type 0 where
  pub header : Header
  pub bounds : Bounds
  pub asked : Asked
  pub history : List Event
  pub fed : AreJudged Counts header bounds asked history judges
  pub counted : length history ≡ count

-- Some verdict of them is open.
abbrev pub has_open : {C F : Type 0} → Judges C F → Bool
has_open judges = any_open (verdicts_of judges.monitors)

-- They have been fed the events that they took. By `--first` some verdict stays open if one was, and they stop at the event with which all
-- verdicts are final; else they stop at none.
abbrev pub judges_taking : {C F : Type 0} → Bool → CountsFor C → Taking (Judges C F) Event
judges_taking first Counts = record {
  takes = λ old events new. TakeEvents Counts old events new × (IsTrue first → has_open old ≡ true → has_open new ≡ true);
  stops = λ old event new. IsTrue first × TakeEvents Counts old (event ∷ []) new × (has_open new ≡ false);
  counts = AreFedSoMany Counts;
}

-- What was read of a trace where its first line alone is asked for. Where there are judges, and for want of memory, it is that
-- line, and at most 4,096 bytes that the reader holds; else the line has the fault.
abbrev pub IsBeginning : {C F : Type 0} → CountsFor C → Type 0 → Lines Version → Bounds → Asked → List ℕ → Result (Judges C F) TextFault → Type 0
IsBeginning Counts Ended lines bounds asked bytes (Ok judges) =
    (header : Header) × HasRead trace_grammar lines header [] bytes × AreJudged Counts header bounds asked [] judges
IsBeginning Counts Ended lines bounds asked bytes (Err fault) =
    (HasFirstLineFault trace_grammar Ended bytes fault × HoldsFront (unread_bytes lines) bytes)
    ⊎ ((fault ≡ Memory) × (header : Header) × HasRead trace_grammar lines header [] bytes)

-- What the source told is what was read so.
pub record ReadsBeginning {S C F : Type 0} (From : FromSource S) (Counts : CountsFor C) (Ended : Type 0) (old new : S)
    (lines : Lines Version) (bounds : Bounds) (asked : Asked) (result : Result (Judges C F) TextFault) : Type 0 where
  pub bytes : List ℕ
  pub told : Tells From old bytes new
  pub is : IsBeginning Counts Ended lines bounds asked bytes result

-- The source told a trace's first line and at most 4,096 bytes more. The reader holds these, and has given no event.
pub record HasReadFirstLine {S : Type 0} (From : FromSource S) (old new : S) (lines : Lines Version) : Type 0 where
  pub bytes : List ℕ
  pub told : Tells From old bytes new
  pub header : Header
  pub read : HasRead trace_grammar lines header [] bytes

-- The judges have been fed the events of all lines that were read behind the header's.
pub record AreFedAllRead {C F : Type 0} (Counts : CountsFor C) (lines : Lines Version) (judges : Judges C F) : Type 0 where
  pub header : Header
  pub bounds : Bounds
  pub asked : Asked
  pub history : List Event
  pub bytes : List ℕ
  pub read : HasRead trace_grammar lines header history bytes
  pub fed : AreJudged Counts header bounds asked history judges

-- The judges have been fed this history, which is all that was read but for what the reader holds. All their verdicts are final. On no
-- shorter prefix are all verdicts final, if on none shorter than what was given before.
pub record AreFedFirst {C F : Type 0} (Counts : CountsFor C) (lines : Lines Version) (header : Header) (bounds : Bounds) (asked : Asked)
    (given history : List Event) (bytes : List ℕ) (judges : Judges C F) : Type 0 where
  pub read : HasRead trace_grammar lines header history bytes
  pub judged : AreJudged Counts header bounds asked history judges
  pub final : has_open judges ≡ false
  pub before : AreOpenBefore header bounds asked given → AreOpenBefore header bounds asked history

-- These are the bytes read where the judges have been fed this history: its text, and behind it nothing up to the end, or the line that
-- has the fault, which is no want of memory. By `--first` some verdict is open there, or what the reader holds stands behind it, and all
-- verdicts are final.
abbrev pub AreReadAndFed : {C F : Type 0} → Bool → CountsFor C → Type 0 → Lines Version → Header → Bounds → Asked → List Event → List Event
    → List ℕ → Judges C F → Result Reached TextFault → Type 0
AreReadAndFed first Counts Ended lines header bounds asked given history bytes judges (Ok End) =
    EndsBehind trace_grammar Ended header history bytes × AreJudged Counts header bounds asked history judges
    × (IsTrue first → has_open judges ≡ true)
AreReadAndFed first Counts Ended lines header bounds asked given history bytes judges (Ok Stop) =
    IsTrue first × AreFedFirst Counts lines header bounds asked given history bytes judges
AreReadAndFed first Counts Ended lines header bounds asked given history bytes judges (Err fault) =
    FailsHolding trace_grammar Ended lines header history bytes fault × AreJudged Counts header bounds asked history judges
    × (IsTrue first → has_open judges ≡ true)

-- What the source told makes, behind whatever had been read and fed before, lines of events that were fed.
pub record FeedsEvents {S C F : Type 0} (first : Bool) (From : FromSource S) (Counts : CountsFor C) (Ended : Type 0) (old new : S)
    (lines lines_after : Lines Version) (judges judges_after : Judges C F) (result : Result Reached TextFault) : Type 0 where
  pub bytes : List ℕ
  pub events : List Event
  pub told : Tells From old bytes new
  pub fed : (header : Header) (bounds : Bounds) (asked : Asked) (given : List Event) (before : List ℕ)
      → HasRead trace_grammar lines header given before → AreJudged Counts header bounds asked given judges
      → AreReadAndFed first Counts Ended lines_after header bounds asked given (given ++ events) (before ++ bytes) judges_after result
