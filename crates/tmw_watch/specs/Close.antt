-- What is left of a watch that was closed, and what is given back where it could not be.
use Rattle.tmw_watch.specs.Shared.{AreInOrder, Fits, GivesHeadline, Headline, IsLogOf, IsPermutation, IsSettled, RestIs, WriterIs, all_of, judged_of, monitor_of, reader_of, rest_front}
use Rattle.std.specs.Prelude.{◌≡◌, ◌⊎◌, ◌<◌, ◌++◌, ℕ, List, length, map, All}
use Rattle.tmw_defs.specs.Verdict.{Rules}
use Rattle.tmw_events.specs.declared.event.Event.{Event}
use Rattle.tmw_watch.specs.Open.{AreOf}
use Rattle.tmw_watch.specs.WatchParts.{recorder_count, watch_front, watch_pump, watch_ring, writer_of}
use Rattle.tmw_watch.specs.declared.close_error.CloseError.{CloseError}
use Rattle.tmw_watch.specs.declared.close_error.CloseError.TheVariants.{Missing, Memory, Shared}
use Rattle.tmw_watch.specs.declared.recorder.Recorder.{Recorder}
use Rattle.tmw_watch.specs.declared.report.WatchReport.{WatchReport}
use Rattle.tmw_watch.specs.declared.watch.Watch.{Watch}

-- what the recorders record by
abbrev pub writers_of : List Recorder → List WriterIs
writers_of recorders = map writer_of recorders

-- They are so many, and each stands at the place that is its number.
pub record AreAll (count : ℕ) (recorders : List Recorder) : Type 0 where
  pub counted : length recorders ≡ count
  pub order : AreInOrder (writers_of recorders)

-- No recorder has this number.
abbrev pub IsMissing : List Recorder → ℕ → Type 0
IsMissing recorders number = All (λ recorder. (writer_of recorder).number.number ≡ number → ⊥) recorders

-- They are too many, or of some number below this count there is none.
abbrev pub AreNotAll : ℕ → List Recorder → Type 0
AreNotAll count recorders = (count < length recorders) ⊎ ((number : ℕ) × (number < count) × IsMissing recorders number)

-- The ring of this watch has ended with these recorders, which are all that it has. It has one log, which begins with what was taken; each recorder has claimed the
-- places of its own events there, and no other, and the log has no events but theirs. One run of the ring's machine leads to it, of
-- which each of them knew a beginning.
pub record HasEnded (watch : Watch) (recorders : List Recorder) (log : List Event) : Type 0 where
  pub all : length recorders ≡ recorder_count watch
  pub writers : List WriterIs
  pub same : IsPermutation (writers_of recorders) writers
  pub order : AreInOrder writers
  pub left : List Event
  pub settled : IsSettled (reader_of (watch_pump watch)) writers left
  pub whole : log ≡ (reader_of (watch_pump watch)).taken ++ left
  pub one_log : IsLogOf log (writers_of recorders) log

-- All of the rest was judged: so many events it had in all, and the verdict is the headline's on all of them.
pub record IsJudged (rest : RestIs) (report : WatchReport) : Type 0 where
  pub counted : report.events ≡ length (all_of rest)
  pub headline : GivesHeadline (rest_front rest) (all_of rest) (all_of rest) report.verdict

-- The watch is closed: the one log has so many events, and the verdict is the headline's on all of it, by whatever rules the watch
-- had judged before.
pub record IsClosed (watch : Watch) (recorders : List Recorder) (report : WatchReport) : Type 0 where
  pub log : List Event
  pub ended : HasEnded watch recorders log
  pub counted : report.events ≡ length log
  pub headline : (rules : Rules) → Fits rules (judged_of (watch_front watch)) (monitor_of (watch_front watch))
      → Headline rules log (writers_of recorders) log report.verdict

-- What an error gives back: the watch as it was and the same recorders, or what these recorded by. That recorders are missing is
-- answered just where they are.
abbrev pub IsUnclosed : Watch → List Recorder → CloseError → Type 0
IsUnclosed watch recorders (Missing same back) =
    (same ≡ watch) × IsPermutation recorders back.items × AreOf (watch_ring same).value back.items
    × AreNotAll (recorder_count watch) recorders
IsUnclosed watch recorders (Memory same back) =
    (same ≡ watch) × IsPermutation recorders back.items × AreOf (watch_ring same).value back.items
    × AreAll (recorder_count watch) back.items
IsUnclosed watch recorders (Shared same back) = (same ≡ watch) × IsPermutation (writers_of recorders) back.items
