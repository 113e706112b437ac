-- What the definitions and contracts of this crate take from the libraries and from the crates below.
pub use Rattle.rtrb.specs.Ring.{IsPair, SameConsumer, SameProducer, received, sent}
pub use Rattle.tmw_defs.specs.History.{answers, ends}
pub use Rattle.tmw_events.specs.declared.event.Kind.{Kind}
pub use Rattle.tmw_events.specs.declared.event.Kind.TheVariants.{A}
pub use Rattle.tmw_ring.specs.RingEnds.{RingIs, WriterIs, WriterOf}
pub use Rattle.tmw_ring.specs.WriterKinds.{kinds_made}
pub use Rattle.tmw_ring.specs.declared.refused.Refused.{Refused}
pub use Rattle.tmw_ring.specs.declared.seat_part.Made.{Made}
pub use Rattle.tmw_runs.specs.AnswersStand.{AllStand, Gives, Stands, StandsSoFar}
pub use Rattle.tmw_runs.specs.Runs.{IsBeginning, IsWholeRun}
pub use Rattle.tmw_runs.specs.Scripts.{are_transactions, script_at, scripts_of}
pub use Rattle.tmw_tm.specs.Answers.{Answer, Call, did_answer}
pub use Rattle.tmw_tm.specs.declared.tx.Tx.{Tx}
