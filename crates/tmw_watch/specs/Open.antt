-- What a new watch and its recorders are.
use Rattle.tmw_watch.specs.Shared.{Fits, HasNumbers, IsNewWriter, RingIs, judged_of, monitor_of, reader_of, rules_of}
use Rattle.std.specs.Prelude.{◌≡◌, ◌<◌, ℕ, List, [], length, get_or, All}
use Rattle.tmw_watch.specs.WatchParts.{recorder_ring, watch_front, watch_pump, watch_ring, writer_of}
use Rattle.tmw_watch.specs.declared.recorder.Recorder.{Recorder}
use Rattle.tmw_watch.specs.declared.settings.WatchSettings.{WatchSettings}
use Rattle.tmw_watch.specs.declared.watch.Watch.{Watch}

-- The recorder of this number is of this ring, and has claimed nothing and seen nothing.
pub record IsNewRecorder (ring : RingIs) (number : ℕ) (recorder : Recorder) : Type 0 where
  pub of_ring : (recorder_ring recorder).value ≡ ring
  pub writer_new : IsNewWriter number (writer_of recorder)

-- All these recorders are of this ring.
abbrev pub AreOf : RingIs → List Recorder → Type 0
AreOf ring recorders = All (λ recorder. (recorder_ring recorder).value ≡ ring) recorders

-- A watch that has judged nothing, by the rules of its settings, over a ring of its size that has made no step, with all its
-- recorders, in the order of their numbers.
pub record IsOpened (settings : WatchSettings) (watch : Watch) (recorders : List Recorder) : Type 0 where
  pub sized : HasNumbers settings.cells settings.recorders settings.limit (watch_ring watch).value.size
  pub count : length recorders ≡ settings.recorders
  pub each : (number : ℕ) (fallback : Recorder) → number < length recorders
      → IsNewRecorder (watch_ring watch).value number (get_or recorders number fallback)
  pub of_ring : AreOf (watch_ring watch).value recorders
  pub taken : (reader_of (watch_pump watch)).taken ≡ []
  pub run : (reader_of (watch_pump watch)).run ≡ []
  pub judged : judged_of (watch_front watch) ≡ []
  pub fits : Fits (rules_of settings.registers settings.start settings.bounds) [] (monitor_of (watch_front watch))
