-- The words of a ring's cells, and the cell that a place uses: what is stored there, and when it shows an event.
use Rattle.std.specs.Prelude.{◌≡◌, ◌+◌, ◌%◌, ℕ, List, get_or, slice_set}
use Rattle.tmw_events.specs.EventWords.{packed_header, kind_value}
use Rattle.tmw_events.specs.declared.event.Event.{Event}
use Rattle.tmw_events.specs.declared.event.Kind.{Kind}
use Rattle.tmw_ring_defs.specs.declared.ring_cell.RingCell.{RingCell}

-- a cell whose words are 0
abbrev pub empty_cell : RingCell
empty_cell = record { stamp = 0; header = 0; value = 0 }

-- In turn each place uses the next of so many cells.
abbrev pub cell_of : ℕ → List RingCell → ℕ → RingCell
cell_of count cells place = get_or cells (place % count) empty_cell

abbrev pub set_cell : ℕ → ℕ → RingCell → List RingCell → List RingCell
set_cell count place cell cells = slice_set cells (place % count) cell

-- the cell after its second word was stored: the value of an event of this kind
abbrev pub filled : Kind → RingCell → RingCell
filled kind cell = record cell { value = kind_value kind }

-- the cell after its first word was stored: the stamp of this place, which is one more than it, and the event's header
abbrev pub published : ℕ → Event → RingCell → RingCell
published place event cell = record cell { stamp = place + 1; header = packed_header event }

-- the cell tells that this place is published
abbrev pub IsStamped : RingCell → ℕ → Type 0
IsStamped cell place = cell.stamp ≡ place + 1

-- the cell's words are the event's, published at this place
pub record Shows (cell : RingCell) (place : ℕ) (event : Event) : Type 0 where
  pub stamp : IsStamped cell place
  pub header : cell.header ≡ packed_header event
  pub value : cell.value ≡ kind_value event.kind
