-- What the proofs of this crate take from the libraries, from the crates below and from its specs.
pub use Rattle.std.proofs.Common.{IsTrue, List, None, Option, Some, [], ap, append_assoc, arith, drop, get_or, inl, inr, length, map, refl, rules, set, subst, suc, sym, take, true, zero, ℕ, ◌++◌, ◌+◌, ◌-◌, ◌<◌, ◌^◌, ◌∙◌, ◌∷◌, ◌≡◌, ◌≤◌}
pub use Rattle.std.proofs.lemmas.Bool.{both_ways, cases_lt}
pub use Rattle.std.proofs.lemmas.List.{append-nil, get_or-map, get_or-set_other, get_or-set_same, get_or_default, get_or_past, length-append, length-map, length-set, length-take-le, length_push, nil_from_length, take-append-drop, take-append-le, take_all}
pub use Rattle.std.proofs.lemmas.List.Elements.{All-append, All-cons, All-drop, All-head, All-nil, All-tail, All-take}
pub use Rattle.std.specs.Global.{Vec}
pub use Rattle.std.specs.Prelude.{All, Err, IsFalse, Ok, OnErr, Result, ◌≢◌, ◌⊎◌}
pub use Rattle.rtrb.specs.Ring.{IsPair, SameConsumer, SameProducer, received, sent}
pub use Rattle.tmw_defs.proofs.VerdictProof.{verdict-one}
pub use Rattle.tmw_defs.specs.Opaque.{zeros}
pub use Rattle.tmw_defs.specs.ThreadTransactions.{kinds_of}
pub use Rattle.tmw_defs.specs.Verdict.{IsFine, IsFirst, IsMalformed, IsVerdict, Rules}
pub use Rattle.tmw_defs.specs.declared.verdict.Verdict.{Verdict}
pub use Rattle.tmw_defs.specs.declared.verdict.Verdict.TheVariants.{Malformed, OpaqueSoFar}
pub use Rattle.tmw_events.specs.declared.event.Event.{Event}
pub use Rattle.tmw_events.specs.declared.event.Kind.{Kind}
pub use Rattle.tmw_monitor.specs.Fits.{Fits, rules_of}
pub use Rattle.tmw_pump.proofs.Turns.{all_judged, judged-none}
pub use Rattle.tmw_pump.specs.Front.{HasJudged, front_part}
pub use Rattle.tmw_pump.specs.Headline.{Headline, IsLogOf}
pub use Rattle.tmw_pump.specs.declared.front.Front.{Front}
pub use Rattle.tmw_ring.specs.RingEnds.{ReaderIs, ReaderOf, RingIs, WriterIs, WriterOf}
pub use Rattle.tmw_ring.specs.SeatPart.{made_from}
pub use Rattle.tmw_ring.specs.Settle.{AreInOrder, IsSettled}
pub use Rattle.tmw_ring.specs.declared.refused.Refused.{Refused}
pub use Rattle.tmw_ring_defs.specs.RingSize.{HasNumbers}
pub use Rattle.tmw_runs.proofs.WellFormed.{kinds_of-append, no_kinds}
pub use Rattle.tmw_runs.specs.AnswersStand.{AllStand}
pub use Rattle.tmw_runs.specs.Runs.{IsBeginning, IsWholeRun}
pub use Rattle.tmw_runs.specs.Scripts.{are_transactions, script_at, script_of, scripts_of}
pub use Rattle.tmw_tm.specs.Answers.{Answer, Call}
pub use Rattle.tmw_workers.proofs.OpaqueRounds.{all_opaque-append, all_opaque-round, all_opaque-take, last_bound-within, opaque_at_last}
pub use Rattle.tmw_workers.proofs.RoundPlaces.{earlier_played}
pub use Rattle.tmw_workers.proofs.Starts.{Back, Handle}
pub use Rattle.tmw_workers.specs.LeaderLines.{AreClosed, AreNewWorkers, AreOpened, ArePairs, IsClosed, IsPairOf, IsPromised}
pub use Rattle.tmw_workers.specs.Rounds.{AllOpaque, AreEndings, HasPlayed, HasPlayedLast, HaveAllPlayedLast, IsLogOfAll, ending_of, last_bound}
pub use Rattle.tmw_workers.specs.Worker.{HasPlayedOn, in_order}
pub use Rattle.tmw_workers.specs.WorkerConditions.{AreTransactions, SomeStop}
pub use Rattle.tmw_workers.specs.declared.ending.Ending.{Ending}
pub use Rattle.tmw_workers.specs.declared.line.Line.{Line}
pub use Rattle.tmw_workers.specs.declared.round_end.RoundEnd.{RoundEnd}
pub use Rattle.tmw_workers.specs.declared.worker.Worker.{Worker}
pub use Rattle.tmw_bench.specs.BenchHeadline.{AreWholeRounds, EndsRound, HasBenched, IsInRounds, IsWholeRound, SomeStopped}
pub use Rattle.tmw_bench.specs.BenchKeep.{HasGoneOn}
pub use Rattle.tmw_bench.specs.Lead.{AllToldEnd, AreNewLines, HasHeard, HasLed, HasLedTo, HasToldEnd, HasToldStop, HaveHeardUpTo, HaveToldUpTo, IsLineAt, SomeToldStop}
pub use Rattle.tmw_bench.specs.RoundsBegun.{HaveBegun, IsAfter, IsOver}
