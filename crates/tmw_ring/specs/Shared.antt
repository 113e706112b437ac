-- What the definitions and contracts of this crate take from the libraries and from the crates below.
pub use Rattle.atomic_table.specs.Seated.{TableId}
pub use Rattle.atomic_table.specs.Table.{Allows, Me, State, Step}
pub use Rattle.tmw_events.specs.EventOfWords.{AreOfEvent, ix_of, unpacked}
pub use Rattle.tmw_events.specs.EventWords.{IsHeader, header_of, kind_value, pack, packed_header, stamp_of, stamped}
pub use Rattle.tmw_events.specs.Text.{FitsKind}
pub use Rattle.tmw_events.specs.declared.event.Event.{Event}
pub use Rattle.tmw_events.specs.declared.event.Kind.{Kind}
pub use Rattle.tmw_events.specs.declared.ix.Ix.{Ix}
pub use Rattle.tmw_ring_defs.specs.RingCore.{Core, new_core}
pub use Rattle.tmw_ring_defs.specs.RingSize.{HasNumbers, IsNoRing}
pub use Rattle.tmw_ring_defs.specs.Room.{HasRoomFor, is_full, is_spent, last_tail, room_phase, room_reply}
pub use Rattle.tmw_ring_defs.specs.Runs.{Gone, HasMade, IsRunTo, NoneOf, Runs, own, reader_actor, writer_actor}
pub use Rattle.tmw_ring_defs.specs.declared.ring_phase.ReaderPhase.TheVariants.{Ready, Told, Waiting}
pub use Rattle.tmw_ring_defs.specs.declared.ring_phase.WriterPhase.{WriterPhase}
pub use Rattle.tmw_ring_defs.specs.declared.ring_phase.WriterPhase.TheVariants.{Claimed, Cleared, Idle, Looked}
pub use Rattle.tmw_ring_defs.specs.declared.ring_size.RingSize.{RingSize}
pub use Rattle.tmw_ring_defs.specs.declared.ring_step.Answered.{Answered}
pub use Rattle.tmw_ring_defs.specs.declared.ring_step.Reply.TheVariants.{Filled, NotReady, Place, Published, Saw}
pub use Rattle.tmw_ring_defs.specs.declared.ring_step.Step.TheVariants.{Claim, Fill, Free, Front, Peek, Publish, Read, Tail}
