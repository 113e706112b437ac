-- Judging a trace: its first line is read, then its events are fed, and what was told is what was read.
use Rattle.tmw_judge.proofs.Shared.{AreOpen, Asked, Bool, Bounds, ByCriterion, CountsFor, End, Err, Event, FailsBehind, FeedsEvents, FromSource, HasFaultFor, HasReadFirstLine, Header, IsBeginning, IsFirstText, IsReadFor, IsTrue, IsWholeText, Judges, Lines, List, Ok, QuotesHeld, QuotesLine, Reached, ReadsBeginning, Stop, Tells, Tells-more, TextFault, ToSink, Verdict, Version, [], any_open, false, fault_of, format_by, front_of, inl, inr, number_of, quoted-behind, quoted-first, refl, trace_grammar, true, unread_bytes, verdicts_of, ℕ, ◌++◌, ◌≡◌}
use Rattle.tmw_lines.proofs.TextsRead.{soon-behind, text_fault-first}
use Rattle.tmw_lines.proofs.LinesRead.{text_fault-behind}
use Rattle.tmw_lines.specs.NextLine.{HasLineFault}
use Rattle.tmw_lines.specs.TextFault.{HasFirstLineFault}
use Rattle.tmw_lines.specs.declared.text_fault.TextFault.TheVariants.{BadHeader, BadLine, Cut, Io, Memory as WantsMemory, TooLong}
use Rattle.tmw_report.specs.declared.fault.Fault.TheVariants.{Memory}
use Rattle.tmw_report.specs.CommandRun.{AnswersTextFault}
use Rattle.tmw_judge.proofs.AnswerParts.{AreJudgesOf}
use Rattle.tmw_judge.proofs.FirstOpen.{AreOpenBefore-none, open-fed}

-- by `--first` the fault of a line behind an open history is in time
fault-behind : (first : Bool) (Ended : Type 0) (header : Header) (bounds : Bounds) (asked : Asked) (history : List Event) (bytes : List ℕ)
    (fault : TextFault) → FailsBehind trace_grammar Ended header history bytes fault → (IsTrue first → AreOpen header bounds asked history)
    → HasFaultFor first bounds asked Ended bytes fault
fault-behind false Ended header bounds asked history bytes fault fails are_open =
    text_fault-behind trace_grammar Ended header history bytes fault fails
fault-behind true Ended header bounds asked history bytes fault fails are_open =
    inr (inl record { header = header; history = history; fails = fails; are_open = are_open refl })

-- how far was read
read-for : (first : Bool) (bounds : Bounds) (asked : Asked) (Ended : Type 0) (bytes : List ℕ) (header : Header) (history : List Event)
    (verdicts : ByCriterion Verdict) → IsWholeText Ended bytes header history → (IsTrue first → any_open verdicts ≡ true)
    → IsReadFor first bounds asked Ended bytes header history verdicts
read-for false bounds asked Ended bytes header history verdicts whole has = whole
read-for true bounds asked Ended bytes header history verdicts whole has = inr (whole, has refl)

read-first : (first : Bool) (bounds : Bounds) (asked : Asked) (Ended : Type 0) (bytes : List ℕ) (header : Header) (history : List Event)
    (verdicts : ByCriterion Verdict) → IsTrue first → IsFirstText bounds asked bytes header history verdicts
    → IsReadFor first bounds asked Ended bytes header history verdicts
read-first false bounds asked Ended bytes header history verdicts is text = absurd (cc)
read-first true bounds asked Ended bytes header history verdicts is text = inl text

module _ {C : Type 0} (F : Type 0) (Counts : CountsFor C) (Ended : Type 0) (lines : Lines Version) (bounds : Bounds) (asked : Asked) (bytes : List ℕ) where
  -- the fault of the first line, or want of memory behind it, is the text's, and comes before any verdict
  first-fault : (first : Bool) (fault : TextFault) → IsBeginning {F = F} Counts Ended lines bounds asked bytes (Err fault)
      → HasFaultFor first bounds asked Ended bytes fault
  first-fault false fault (inl (has, holds)) = text_fault-first trace_grammar Ended bytes fault has
  first-fault false fault (inr (is, header, read)) = rw is (soon-behind trace_grammar lines header [] bytes read)
  first-fault true fault (inl (has, holds)) = inl has
  first-fault true fault (inr (is, header, read)) = inr (inr (
    is,
    record {
      soon = record {
        begun = record { header = header; items = []; are_lines = read.are_lines; rest = unread_bytes lines; split = read.text };
        soon = read.few;
      };
      before = AreOpenBefore-none header bounds asked;
    },
  ))

  -- of the first line's fault is told as much
  first-quoted : {E : Type 0} (Errors : ToSink E) (old new : E) (told : TextFault)
      → IsBeginning {F = F} Counts Ended lines bounds asked bytes (Err told)
      → QuotesHeld Errors (number_of (fault_of told)) (fault_of told) (format_by lines) (front_of (unread_bytes lines)) old new
      → QuotesLine Errors (number_of (fault_of told)) (fault_of told) bytes old new
  first-quoted Errors old new told (inl (has, holds)) = quoted-first Errors Ended lines bytes old new told has holds
  first-quoted Errors old new told (inr (is, header, read)) = rw is (λ held. held)

-- a line is never at fault for want of memory
first_line-memory : (Ended : Type 0) (bytes : List ℕ) (told : TextFault) → fault_of told ≡ Memory
    → HasFirstLineFault trace_grammar Ended bytes told → ⊥
first_line-memory Ended bytes WantsMemory is has = has
first_line-memory Ended bytes BadHeader is has = absurd (cc)
first_line-memory Ended bytes (BadLine number) is has = absurd (cc)
first_line-memory Ended bytes (Cut number) is has = absurd (cc)
first_line-memory Ended bytes Io is has = absurd (cc)
first_line-memory Ended bytes TooLong is has = absurd (cc)

line-memory : (Ended : Type 0) (format : Version) (count : ℕ) (bytes : List ℕ) (told : TextFault) → fault_of told ≡ Memory
    → HasLineFault trace_grammar Ended format count bytes told → ⊥
line-memory Ended format count bytes WantsMemory is has = has
line-memory Ended format count bytes BadHeader is has = absurd (cc)
line-memory Ended format count bytes (BadLine number) is has = absurd (cc)
line-memory Ended format count bytes (Cut number) is has = absurd (cc)
line-memory Ended format count bytes Io is has = absurd (cc)
line-memory Ended format count bytes TooLong is has = absurd (cc)

-- for want of memory no trace was begun: the first line was read
pub unbegun-memory : {S C F : Type 0} (Counts : CountsFor C) (From : FromSource S) (Ended : Type 0) (a b : S) (lines : Lines Version)
    (bounds : Bounds) (asked : Asked) (told : TextFault) → ReadsBeginning {F = F} From Counts Ended a b lines bounds asked (Err told)
    → fault_of told ≡ Memory → HasReadFirstLine From a b lines
unbegun-memory {F = F} Counts From Ended a b lines bounds asked told reads is = elim reads.is [
  | inl first ↦ absurd (first_line-memory Ended reads.bytes told is first.0)
  | inr begun ↦ record { bytes = reads.bytes; told = reads.told; header = begun.1; read = begun.2 }
]

-- no trace was begun
pub fed-unbegun : {S C E F : Type 0} (first : Bool) (Counts : CountsFor C) (From : FromSource S) (Errors : ToSink E) (Ended : Type 0) (a b : S)
    (old new : E) (lines : Lines Version) (bounds : Bounds) (asked : Asked) (told : TextFault)
    → ReadsBeginning {F = F} From Counts Ended a b lines bounds asked (Err told)
    → QuotesHeld Errors (number_of (fault_of told)) (fault_of told) (format_by lines) (front_of (unread_bytes lines)) old new
    → (bytes : List ℕ) × Tells From a bytes b × AnswersTextFault (HasFaultFor first bounds asked Ended bytes) (fault_of told)
    × QuotesLine Errors (number_of (fault_of told)) (fault_of told) bytes old new
fed-unbegun {F = F} first Counts From Errors Ended a b old new lines bounds asked told reads held = (
  reads.bytes,
  reads.told,
  (told, refl, first-fault F Counts Ended lines bounds asked reads.bytes first told reads.is),
  first-quoted F Counts Ended lines bounds asked reads.bytes Errors old new told reads.is held,
)

module _ {S C F : Type 0} (first : Bool) (From : FromSource S) (Counts : CountsFor C) (First Ended : Type 0) (a b c : S)
    (lines after : Lines Version) (bounds : Bounds) (asked : Asked) (judges fed : Judges C F)
    (begins : ReadsBeginning From Counts First a b lines bounds asked (Ok judges)) where
  -- its events were fed
  pub fed-done : (reached : Reached) → FeedsEvents first From Counts Ended b c lines after judges fed (Ok reached)
      → (all : List ℕ) × Tells From a all c × AreJudgesOf first Counts bounds asked Ended all fed
  fed-done End feeds =
      let all = begins.bytes ++ feeds.bytes in
      let end = feeds.fed begins.is.0 bounds asked [] begins.bytes begins.is.1 begins.is.2 in (
        all,
        Tells-more From a b c begins.bytes feeds.bytes begins.told feeds.told,
        record {
          header = begins.is.0;
          history = feeds.events;
          are_events = end.0.are_lines;
          read = read-for first bounds asked Ended all begins.is.0 feeds.events (verdicts_of fed.monitors)
              (record { ended = end.0.ended; text = end.0.text }) end.2;
          judged = end.1;
        },
      )
  fed-done Stop feeds =
      let all = begins.bytes ++ feeds.bytes in
      let (so, end) = feeds.fed begins.is.0 bounds asked [] begins.bytes begins.is.1 begins.is.2 in (
        all,
        Tells-more From a b c begins.bytes feeds.bytes begins.told feeds.told,
        record {
          header = begins.is.0;
          history = feeds.events;
          are_events = end.read.are_lines;
          read = read-first first bounds asked Ended all begins.is.0 feeds.events (verdicts_of fed.monitors) so (record {
            rest = unread_bytes after;
            text = end.read.text;
            few = end.read.few;
            final = end.final;
            before = end.before (AreOpenBefore-none begins.is.0 bounds asked);
          });
          judged = end.judged;
        },
      )

  -- and then came a fault
  pub fed-fault : {E : Type 0} (Errors : ToSink E) (old new : E) (told : TextFault)
      → FeedsEvents first From Counts Ended b c lines after judges fed (Err told)
      → QuotesHeld Errors (number_of (fault_of told)) (fault_of told) (format_by after) (front_of (unread_bytes after)) old new
      → (all : List ℕ) × Tells From a all c × AnswersTextFault (HasFaultFor first bounds asked Ended all) (fault_of told)
      × QuotesLine Errors (number_of (fault_of told)) (fault_of told) all old new
  fed-fault Errors old new told feeds held =
      let all = begins.bytes ++ feeds.bytes in
      let stop = feeds.fed begins.is.0 bounds asked [] begins.bytes begins.is.1 begins.is.2 in (
        all,
        Tells-more From a b c begins.bytes feeds.bytes begins.told feeds.told,
        (
          told,
          refl,
          fault-behind first Ended begins.is.0 bounds asked feeds.events all told stop.0.fails
              (λ so. open-fed begins.is.0 bounds feeds.events asked fed.monitors stop.1.fed (stop.2 so)),
        ),
        quoted-behind Errors Ended after all old new begins.is.0 feeds.events told stop.0 held,
      )

  -- which is no want of memory
  pub fed-memory : (told : TextFault) → FeedsEvents first From Counts Ended b c lines after judges fed (Err told) → fault_of told ≡ Memory → ⊥
  fed-memory told feeds is =
      let stop = feeds.fed begins.is.0 bounds asked [] begins.bytes begins.is.1 begins.is.2 in
      line-memory Ended _ _ stop.0.fails.rest told is stop.0.fails.line
