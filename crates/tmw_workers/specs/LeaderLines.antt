-- The rings between a leader and its workers, as they are opened and closed.
use Rattle.tmw_workers.specs.Shared.{IsPair, Kind, RingIs, WriterIs, WriterOf, received, script_at, sent}
use Rattle.tmw_workers.specs.Player.{calls_of}
use Rattle.std.specs.Prelude.{◌≡◌, ◌<◌, ◌++◌, ℕ, List, [], length, get_or}
use Rattle.tmw_workers.specs.declared.round_end.RoundEnd.{RoundEnd}
use Rattle.tmw_workers.specs.declared.line.Line.{Line}
use Rattle.tmw_workers.specs.declared.threads.Playing.{Playing}
use Rattle.tmw_workers.specs.declared.worker.Worker.{Worker}

-- A new worker with this writer, and the line to it.
pub record IsOpened (writer : WriterIs) (worker : Worker) (line : Line) : Type 0 where
  pub writer_is : worker.writer ≡ writer
  pub up : IsPair worker.up line.up
  pub down : IsPair line.down worker.down
  pub none_told : sent worker.up ≡ []
  pub none_heard : received line.up ≡ []
  pub none_led : sent line.down ≡ []
  pub none_taken : received worker.down ≡ []

-- A worker for each writer, and the lines to them.
pub record AreOpened (writers : List WriterIs) (workers : List Worker) (lines : List Line) : Type 0 where
  pub worker_count : length workers ≡ length writers
  pub line_count : length lines ≡ length writers
  pub each : (place : ℕ) (a : WriterIs) (b : Worker) (c : Line) → place < length writers
      → IsOpened (get_or writers place a) (get_or workers place b) (get_or lines place c)

-- The worker has done nothing.
pub record IsNewWorker (ring : RingIs) (worker : Worker) : Type 0 where
  pub of_ring : WriterOf ring worker.writer
  pub made : worker.writer.made ≡ []
  pub none_told : sent worker.up ≡ []
  pub none_taken : received worker.down ≡ []

abbrev pub AreNewWorkers : RingIs → List Worker → Type 0
AreNewWorkers ring workers = (place : ℕ) (fallback : Worker) → place < length workers → IsNewWorker ring (get_or workers place fallback)

-- the ring in which a thread that promises this records
abbrev pub promised_ring : {J : Type 0} → Playing J → RingIs
promised_ring promise = promise.ring.now

-- the script that it runs
abbrev pub promised_script : {J : Type 0} → Playing J → List (List Kind)
promised_script promise = calls_of promise.script.now

-- the worker that it was given
abbrev pub promised_worker : {J : Type 0} → Playing J → Worker
promised_worker promise = promise.before.value

-- The thread at this place was given the ring, the script at this place, and the worker at this place.
pub record IsPromised (ring : RingIs) (scripts : List (List (List Kind))) (workers : List Worker) (place : ℕ) (own_ring : RingIs) (script : List (List Kind)) (before : Worker) : Type 0 where
  pub of_ring : own_ring ≡ ring
  pub same : script ≡ script_at scripts place
  pub worker : (fallback : Worker) → get_or workers place fallback ≡ before

-- The line is the one to the worker.
pub record IsPairOf (worker : Worker) (line : Line) : Type 0 where
  pub up : IsPair worker.up line.up
  pub down : IsPair line.down worker.down

abbrev pub ArePairs : List Worker → List Line → Type 0
ArePairs workers lines = (place : ℕ) (a : Worker) (b : Line) → place < length workers → IsPairOf (get_or workers place a) (get_or lines place b)

-- What the worker has told and was not heard, and what it was told and has not taken, was in the rings.
pub record IsClosed (worker : Worker) (line : Line) : Type 0 where
  pub unheard : List RoundEnd
  pub left : List ℕ
  pub heard_all : received line.up ++ unheard ≡ sent worker.up
  pub taken_all : received worker.down ++ left ≡ sent line.down

abbrev pub AreClosed : List Worker → List Line → Type 0
AreClosed workers lines = (place : ℕ) (a : Worker) (b : Line) → place < length workers → IsClosed (get_or workers place a) (get_or lines place b)
