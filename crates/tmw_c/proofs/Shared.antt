-- What the proofs of this crate take from the libraries, from the crates below and from its specs.
pub use Rattle.std.proofs.Common.{All, List, None, Option, Some, [], ap, append_assoc, arith, drop, false, get_or, inl, inr, length, refl, rules, subst, suc, sym, take, true, vec_capacity, vec_len, zero, ℕ, ◌++◌, ◌+◌, ◌<◌, ◌∙◌, ◌∷◌, ◌≡◌, ◌≤◌}
pub use Rattle.std.proofs.lemmas.List.{drop_all, get_or_default, length_push}
pub use Rattle.std.specs.Vec.Iter.{into_iter_items, into_iter_len}
pub use Rattle.tmw_defs.specs.History.{answers, is_well_formed}
pub use Rattle.tmw_events.specs.declared.event.Kind.TheVariants.{A, C, K, N, R, T, V, W, X}
pub use Rattle.tmw_handles.specs.HandleContent.{HasNumber}
pub use Rattle.tmw_handles.specs.declared.held_recorder.HeldRecorder.{HeldRecorder}
pub use Rattle.tmw_handles.specs.declared.recorder_handle.RecorderHandle.{RecorderHandle}
pub use Rattle.tmw_ring.specs.RingEnds.{RingIs, WriterIs}
pub use Rattle.tmw_runs.specs.Runs.{IsWholeText, is_abort}
pub use Rattle.tmw_runs.specs.ByTurns.{Follows, IsByTurns, LeavesCalls}
pub use Rattle.tmw_watch.specs.Close.{AreAll, HasEnded, writers_of}
pub use Rattle.tmw_watch.specs.WatchParts.{writer_of}
pub use Rattle.tmw_watch.specs.declared.recorder.Recorder.{Recorder}
pub use Rattle.tmw_watch.specs.declared.watch.Watch.{Watch}
pub use Rattle.tmw_c.specs.Close.{AreHeld, AreInPlace, IsClosing, IsHeld, IsHeldOf, IsUnended}
pub use Rattle.tmw_c.specs.Laws.{NeverMalformedLaw, OneKindLaw, kinds_recorded}
pub use Rattle.tmw_c.specs.Open.{AreEmpty, AreHandlesOf, AreSettings}
pub use Rattle.tmw_c.specs.TurnCalls.{EndsTransaction, GoesOn, GoesOnBy, HasAnswered, HasNotAnswered, HasNotCalled, Holds, IsAnswering, IsAt, IsCalling, IsTurn}
pub use Rattle.tmw_c.specs.declared.call_status.CallStatus.{CallStatus}
pub use Rattle.tmw_c.specs.declared.call_status.CallStatus.TheVariants.{BadBounds, BadKind, BadLimit, BadRegister, BadRegisters, BadSize, BadStart, Closing, Done, Full, FullHandle, Memory, Misfit, Missing, NoHandle, NotCall, OutOfTurn, Spent}
pub use Rattle.tmw_c.specs.declared.c_turn.Call.{Call}
pub use Rattle.tmw_c.specs.declared.c_turn.CTurn.{CTurn}
