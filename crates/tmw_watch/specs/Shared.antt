-- What the definitions and contracts of this crate take from the libraries and from the crates below.
pub use Rattle.std.specs.List.Sorted.{IsPermutation}
pub use Rattle.tmw_monitor.specs.Fits.{Fits, rules_of}
pub use Rattle.tmw_pump.specs.Front.{TellsVerdict, front_part, judged_of, monitor_of, verdict_on}
pub use Rattle.tmw_pump.specs.Headline.{GivesHeadline, Headline, IsLogOf}
pub use Rattle.tmw_pump.specs.Pump.{IsPumped, PumpIs, pump_front, pump_in, reader_of}
pub use Rattle.tmw_pump.specs.Rest.{RestIs, all_of, left_of, rest_front, rest_in}
pub use Rattle.tmw_ring.specs.NewRing.{AreNewWriters, IsNewWriter}
pub use Rattle.tmw_ring.specs.RingEnds.{ReaderOf, RingIs, WriterIs, WriterOf}
pub use Rattle.tmw_ring.specs.Settle.{AreInOrder, IsSettled}
pub use Rattle.tmw_ring_defs.specs.RingSize.{HasNumbers, IsNoRing}
