-- The state of a ring in which threads record events: its words, how far its writers and its reader have come, the log of the
-- events for which a place was claimed, and the events that were taken.
use Rattle.std.specs.Prelude.{ℕ, List, [], replicate}
use Rattle.tmw_events.specs.declared.event.Event.{Event}
use Rattle.tmw_ring_defs.specs.RingCells.{empty_cell}
use Rattle.tmw_ring_defs.specs.declared.ring_cell.RingCell.{RingCell}
use Rattle.tmw_ring_defs.specs.declared.ring_phase.ReaderPhase.{ReaderPhase}
use Rattle.tmw_ring_defs.specs.declared.ring_phase.ReaderPhase.TheVariants.{Waiting}
use Rattle.tmw_ring_defs.specs.declared.ring_phase.WriterPhase.{WriterPhase}
use Rattle.tmw_ring_defs.specs.declared.ring_phase.WriterPhase.TheVariants.{Idle}
use Rattle.tmw_ring_defs.specs.declared.ring_size.RingSize.{RingSize}

-- Front counts the places that were freed and tail those that were claimed. The phases of the writers stand in the order of
-- their numbers.
pub record Core : Type 0 where
  pub size : RingSize
  pub front : ℕ
  pub tail : ℕ
  pub cells : List RingCell
  pub writers : List WriterPhase
  pub reader : ReaderPhase
  pub log : List Event
  pub taken : List Event

-- At the start all words are 0, and nobody is on the way.
abbrev pub new_core : RingSize → Core
new_core size = record {
  size = size;
  front = 0;
  tail = 0;
  cells = replicate size.cells empty_cell;
  writers = replicate size.writers Idle;
  reader = Waiting;
  log = [];
  taken = [];
}
