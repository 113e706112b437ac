-- How a call to close a watch is answered.
use Rattle.tmw_c.specs.Shared.{HasNumber, HeldRecorder, HeldWatch, IsClosed, Open, Recorder, RecorderHandle, Shared, Watch, recorder_count, recorder_in, recorder_ring, watch_ring, writers_of}
use Rattle.std.specs.Prelude.{◌≡◌, ◌⊎◌, ◌<◌, ℕ, List, Option, Some, None, length, get_or, All}
use Rattle.std.specs.Global.{Vec}
use Rattle.tmw_c.specs.Judge.{IsNotOpen, IsTold}
use Rattle.tmw_c.specs.Open.{AreEmpty}
use Rattle.tmw_c.specs.declared.call_status.CallStatus.{CallStatus}
use Rattle.tmw_c.specs.declared.call_status.CallStatus.TheVariants.{Done, NoHandle, Missing, Memory, Closing}
use Rattle.tmw_c.specs.declared.c_verdict.CVerdict.{CVerdict}
use Rattle.tmw_ring.specs.RingEnds.{RingIs, WriterIs}
use Rattle.tmw_watch.specs.declared.report.WatchReport.{WatchReport}

-- There are so many handles, and each holds the recorder of the number that is its place.
pub record AreInPlace (count : ℕ) (handles : List RecorderHandle) : Type 0 where
  pub counted : length handles ≡ count
  pub each : (place : ℕ) (fallback : RecorderHandle) → place < length handles → HasNumber place (recorder_in (get_or handles place fallback))

-- What is held, if anything, records into this ring.
abbrev pub IsHeldOf : RingIs → Option HeldRecorder → Type 0
IsHeldOf ring None = Unit {0}
IsHeldOf ring (Some held) = (recorder_ring held.recorder).value ≡ ring

-- What these handles hold, if anything, are recorders of the watch, where it is open: this the program owes.
abbrev pub AreOfWatch : Option HeldWatch → List RecorderHandle → Type 0
AreOfWatch (Some (Open watch)) handles = All (λ (handle : RecorderHandle). IsHeldOf (watch_ring watch).value (recorder_in handle)) handles
AreOfWatch _ handles = Unit {0}

-- This recorder is held.
abbrev pub IsHeld : Recorder → Option HeldRecorder → Type 0
IsHeld recorder None = ⊥
IsHeld recorder (Some held) = held.recorder ≡ recorder

-- The handles hold just these recorders, in their order.
pub record AreHeld (recorders : List Recorder) (handles : List RecorderHandle) : Type 0 where
  pub counted : length handles ≡ length recorders
  pub each : (place : ℕ) (handle : RecorderHandle) (recorder : Recorder) → place < length handles
      → IsHeld (get_or recorders place recorder) (recorder_in (get_or handles place handle))

-- The handles held just these recorders, in their order, and hold nothing now.
pub record WereTaken (recorders : List Recorder) (olds news : List RecorderHandle) : Type 0 where
  pub held : AreHeld recorders olds
  pub as_many : length news ≡ length olds
  pub gone : AreEmpty news

-- An open watch was closed with all its recorders, each in its place, which the handles hold no more: this is the report of its
-- whole log.
pub record WasClosed (held : HeldWatch) (olds news : List RecorderHandle) (report : WatchReport) : Type 0 where
  pub watch : Watch
  pub opened : held ≡ Open watch
  pub recorders : List Recorder
  pub placed : AreInPlace (recorder_count watch) olds
  pub taken : WereTaken recorders olds news
  pub closed : IsClosed watch recorders report

-- All is as it was.
pub record IsSame (old new : HeldWatch) (olds news : List RecorderHandle) : Type 0 where
  pub watch_same : new ≡ old
  pub handles_same : news ≡ olds

-- An open watch is to be closed with handles that do not hold all its recorders, each in its place. All is as it was.
pub record LacksRecorders (old new : HeldWatch) (olds news : List RecorderHandle) : Type 0 where
  pub watch : Watch
  pub opened : old ≡ Open watch
  pub lacks : AreInPlace (recorder_count watch) olds → ⊥
  pub same : IsSame old new olds news

-- Memory was refused before anything was done. All is as it was.
pub record HadNoRoom (old new : HeldWatch) (olds news : List RecorderHandle) : Type 0 where
  pub watch : Watch
  pub opened : old ≡ Open watch
  pub all : AreInPlace (recorder_count watch) olds
  pub same : IsSame old new olds news

-- The ring has an owner beside the watch and its recorders. There is none, as no call makes one. The handle of the watch holds it
-- and what the recorders recorded by, and the others hold nothing.
pub record WasShared (old new : HeldWatch) (olds news : List RecorderHandle) : Type 0 where
  pub watch : Watch
  pub opened : old ≡ Open watch
  pub recorders : List Recorder
  pub placed : AreInPlace (recorder_count watch) olds
  pub taken : WereTaken recorders olds news
  pub writers : Vec WriterIs
  pub shared : new ≡ Shared watch writers
  pub theirs : writers.items ≡ writers_of recorders

-- why no report came of what was held, and what is held then
abbrev pub IsUnended : (old new : HeldWatch) → (olds news : List RecorderHandle) → CallStatus → Type 0
IsUnended old new olds news Missing = LacksRecorders old new olds news
IsUnended old new olds news Memory = HadNoRoom old new olds news
IsUnended old new olds news Closing = WasShared old new olds news ⊎ (IsNotOpen old × IsSame old new olds news)
IsUnended old new olds news _ = ⊥

-- What the handle held was closed. It holds nothing now, and the caller is told the number of all events and the verdict on them.
pub record HasTold (old new : Option HeldWatch) (olds news : List RecorderHandle) (told : CVerdict) : Type 0 where
  pub before : HeldWatch
  pub held : old ≡ Some before
  pub gone : new ≡ None
  pub report : WatchReport
  pub closed : WasClosed before olds news report
  pub is_told : IsTold report.events report.verdict told

-- What the handle held was not closed, and it holds what the status says.
pub record HasKept (old new : Option HeldWatch) (olds news : List RecorderHandle) (status : CallStatus) : Type 0 where
  pub before : HeldWatch
  pub after : HeldWatch
  pub held : old ≡ Some before
  pub holds : new ≡ Some after
  pub unended : IsUnended before after olds news status

-- Each status of a call to close, with what the handles hold then, and what the caller is told.
abbrev pub IsClosing : (old new : Option HeldWatch) → (olds news : List RecorderHandle) → (old_told new_told : CVerdict) → CallStatus → Type 0
IsClosing old new olds news old_told new_told Done = HasTold old new olds news new_told
IsClosing old new olds news old_told new_told NoHandle = (old ≡ None) × (new ≡ None) × (news ≡ olds) × (new_told ≡ old_told)
IsClosing old new olds news old_told new_told status = HasKept old new olds news status × (new_told ≡ old_told)
