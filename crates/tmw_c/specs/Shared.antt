-- What the definitions and contracts of this crate take from the libraries and from the crates below.
pub use Rattle.tmw_defs.specs.declared.verdict.Verdict.{Verdict}
pub use Rattle.tmw_defs.specs.declared.verdict.Verdict.TheVariants.{Malformed, OpaqueSoFar, StrictSoFar, Undecided, Violated}
pub use Rattle.tmw_events.specs.declared.event.Kind.{Kind}
pub use Rattle.tmw_events.specs.declared.event.Kind.TheVariants.{A, C, K, N, R, T, V, W, X}
pub use Rattle.tmw_handles.specs.HandleContent.{HasNumber, recorder_in, watch_in}
pub use Rattle.tmw_handles.specs.declared.held_recorder.HeldRecorder.{HeldRecorder}
pub use Rattle.tmw_handles.specs.declared.held_watch.HeldWatch.{HeldWatch}
pub use Rattle.tmw_handles.specs.declared.held_watch.HeldWatch.TheVariants.{Closed, Open, Shared}
pub use Rattle.tmw_handles.specs.declared.recorder_handle.RecorderHandle.{RecorderHandle}
pub use Rattle.tmw_pump.specs.Front.{TellsVerdict, front_part, judged_of, verdict_on}
pub use Rattle.tmw_pump.specs.Headline.{GivesHeadline, Headline}
pub use Rattle.tmw_ring.specs.Record.{HasRecorded, IsRefusal}
pub use Rattle.tmw_runs.specs.ByTurns.{Follows, IsByTurns, IsPlaced}
pub use Rattle.tmw_watch.specs.Close.{HasEnded, IsClosed, writers_of}
pub use Rattle.tmw_watch.specs.WatchParts.{recorder_count, recorder_ring, watch_front, watch_pump, watch_ring, writer_of}
pub use Rattle.tmw_watch.specs.declared.recorder.Recorder.{Recorder}
pub use Rattle.tmw_watch.specs.declared.watch.Watch.{Watch}
