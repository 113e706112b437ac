-- What the proofs of this crate take from the libraries, from the crates below and from its specs.
pub use Rattle.std.proofs.Common.{Err, IfErr, IfOk, IsTrue, List, None, Ok, Option, Result, Some, [], ap, append_assoc, arith, drop, get_or, inl, inr, length, map, refl, rules, set, subst, suc, sym, take, true, zero, ℕ, ◌++◌, ◌+◌, ◌<◌, ◌∙◌, ◌∷◌, ◌≡◌, ◌≤◌}
pub use Rattle.std.proofs.Math.Seq.{get_or-append_seam}
pub use Rattle.std.proofs.lemmas.Bool.{MatchBool-at_true, and_from, and_parts, cases_Bool, cases_lt, ne_eqb}
pub use Rattle.std.proofs.lemmas.List.{append-nil, drop-drop, get_or-map, get_or-set_other, get_or_default, length-append, length-map, length-set, length-take-le, length_push, map_push, nil_from_length, take-append-le, take-take, take_all}
pub use Rattle.std.proofs.lemmas.List.Elements.{All-append, All-nil}
pub use Rattle.std.specs.Prelude.{All, Bool, MatchBool, false, if◌then◌else◌, slice_get, ◌==◌}
pub use Rattle.std.specs.Vec.Iter.{into_iter_items, into_iter_len}
pub use Rattle.rtrb.specs.Ring.{SameConsumer, SameProducer, received, sent}
pub use Rattle.tmw_defs.specs.History.{answers, ends}
pub use Rattle.tmw_events.specs.declared.event.Event.{Event}
pub use Rattle.tmw_events.specs.declared.event.Kind.{Kind}
pub use Rattle.tmw_events.specs.declared.event.Kind.TheVariants.{A, C, K, N, R, T, V, W, X}
pub use Rattle.tmw_ring.proofs.InOrder.{one_more, shorter}
pub use Rattle.tmw_ring.specs.Record.{HasLooked, HasRecorded, IsRefusal, made_at}
pub use Rattle.tmw_ring.specs.RingEnds.{RingIs, WriterIs, WriterOf}
pub use Rattle.tmw_ring.specs.WriterKinds.{kinds_made}
pub use Rattle.tmw_ring.specs.declared.refused.Refused.{Refused}
pub use Rattle.tmw_ring.specs.declared.seat_part.Made.{Made}
pub use Rattle.tmw_runs.proofs.Calls.{are_calls-transactions}
pub use Rattle.tmw_runs.proofs.Leaves.{beginning, beginning_pending, leaves_aborted, leaves_all, leaves_answered, leaves_next, not_whole, whole_run}
pub use Rattle.tmw_runs.proofs.Stands.{all_stand-more, so_far_all, so_far_answered, so_far_called, so_far_none}
pub use Rattle.tmw_runs.specs.AnswersStand.{AllStand, Stands, StandsSoFar}
pub use Rattle.tmw_runs.specs.Runs.{IsBeginning, IsWholeRun}
pub use Rattle.tmw_runs.specs.ScriptRest.{Leaves}
pub use Rattle.tmw_runs.specs.Scripts.{are_transactions, is_operation, is_request, is_transaction, script_at, script_of, scripts_of}
pub use Rattle.tmw_tm.specs.Answers.{Answer, Call}
pub use Rattle.tmw_workers.specs.CallSteps.{HasCalled, HasClaimed, HasRunSoFar, StopsAt}
pub use Rattle.tmw_workers.specs.FreshTx.{IsFresh}
pub use Rattle.tmw_workers.specs.LeaderLines.{ArePairs, IsClosed, IsNewWorker, IsOpened, IsPairOf, IsPromised}
pub use Rattle.tmw_workers.specs.Player.{BeginsNext, GoesOn, IsNew, MakesNext, Plays, calls_of, from_call, left_of, next_of}
pub use Rattle.tmw_workers.specs.RecordSoon.{HasTried, HasWaited, WasRefused}
pub use Rattle.tmw_workers.specs.RoundMeeting.{HasMet, HasOnlySeen}
pub use Rattle.tmw_workers.specs.Rounds.{AllOpaque, HasPlayed, HasPlayedLast, IsReady, ending_of, last_bound}
pub use Rattle.tmw_workers.specs.Work.{EndsWork, FindsFrom, HasWorked, tail_of}
pub use Rattle.tmw_workers.specs.Worker.{HasPlayedOn, HasSeen, IsBetween, IsSameWorker}
pub use Rattle.tmw_workers.specs.declared.line.Line.{Line}
pub use Rattle.tmw_workers.specs.declared.player.Player.{Player}
pub use Rattle.tmw_workers.specs.declared.worker.Worker.{Worker}
