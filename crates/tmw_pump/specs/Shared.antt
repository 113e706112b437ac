-- What the definitions and contracts of this crate take from the libraries and from the crates below.
pub use Rattle.tmw_counts.specs.CountedPart.{part_by}
pub use Rattle.tmw_defs.specs.Verdict.{HasMany, IsFirst, IsMalformed, IsTooMany, IsTooWide, IsVerdict, Rules}
pub use Rattle.tmw_defs.specs.declared.verdict.Verdict.{Verdict}
pub use Rattle.tmw_events.specs.declared.event.Event.{Event}
pub use Rattle.tmw_monitor.specs.Fits.{Fits}
pub use Rattle.tmw_monitor.specs.Monitor.{IsOpen, criterion_of, verdict_of}
pub use Rattle.tmw_monitor.specs.declared.monitor.Monitor.{Monitor}
pub use Rattle.tmw_ring.specs.RingEnds.{ReaderIs, ReaderOf, WriterIs, WriterOf}
