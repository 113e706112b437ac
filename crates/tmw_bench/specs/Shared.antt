-- What the definitions and contracts of this crate take from the libraries and from the crates below.
pub use Rattle.tmw_defs.specs.Opaque.{zeros}
pub use Rattle.tmw_defs.specs.Verdict.{IsVerdict, Rules}
pub use Rattle.tmw_defs.specs.declared.verdict.Verdict.TheVariants.{Malformed, OpaqueSoFar}
pub use Rattle.tmw_events.specs.declared.event.Kind.{Kind}
pub use Rattle.tmw_events.specs.declared.registers.Registers.{Registers}
pub use Rattle.tmw_monitor.specs.Fits.{Fits, rules_of}
pub use Rattle.tmw_options.specs.declared.bench_settings.Settings.{Settings}
pub use Rattle.tmw_pump.specs.Front.{HasJudged, judged_of, monitor_of, verdict_on}
pub use Rattle.tmw_pump.specs.Keep.{IsKept, StaysKept}
pub use Rattle.tmw_pump.specs.Pump.{PumpIs, pump_front, pump_in, pump_kept, reader_of}
pub use Rattle.tmw_pump.specs.declared.front.Front.{Front}
pub use Rattle.tmw_ring.specs.RingEnds.{ReaderIs, ReaderOf, RingIs, WriterIs, WriterOf}
pub use Rattle.tmw_ring.specs.Settle.{AreInOrder}
pub use Rattle.tmw_ring.specs.declared.refused.Refused.{Refused}
pub use Rattle.tmw_runs.specs.Scripts.{script_at, scripts_of}
pub use Rattle.tmw_tm.specs.Answers.{Answer, Call}
pub use Rattle.tmw_workers.specs.Rounds.{AllOpaque, HaveAllPlayedLast}
pub use Rattle.tmw_workers.specs.WorkerConditions.{AreTransactions, GivesWithin, IsOfThreads, SomeStop}
