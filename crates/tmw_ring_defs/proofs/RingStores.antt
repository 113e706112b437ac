-- The cells of a ring after a store: the cell of the place has the new words, and that of any other place in the same turn is as before.
use Rattle.tmw_ring_defs.proofs.Shared.{Bool, Claimed, Core, Event, IsIn, Kind, List, RingCell, Some, Sound, arith, cell_at, cell_of, empty_cell, get_or-set_other, get_or-set_same, length, length-set, set_cell, slice_get, slice_get_within, with_cell, ℕ, ◌%◌, ◌+◌, ◌<◌, ◌≡◌, ◌≢◌, ◌≤◌}

-- the new words
pub cell_of-set : (count place : ℕ) (cell : RingCell) (cells : List RingCell) → place % count < length cells
    → cell_of count (set_cell count place cell cells) place ≡ cell
cell_of-set count place cell cells within = get_or-set_same cells (place % count) cell empty_cell within

-- a cell with another index
pub cell_of-kept : (count place other : ℕ) (cell : RingCell) (cells : List RingCell) → other % count ≢ place % count
    → cell_of count (set_cell count place cell cells) other ≡ cell_of count cells other
cell_of-kept count place other cell cells apart = get_or-set_other cells (place % count) (other % count) cell empty_cell apart

pub length-set_cell : (count place : ℕ) (cell : RingCell) (cells : List RingCell)
    → length (set_cell count place cell cells) ≡ length cells
length-set_cell count place cell cells = length-set cells (place % count) cell

-- Two places less than a turn apart that use one cell are one place.
pub one_turn : (count a b : ℕ) → a ≤ b → b < a + count → a % count ≡ b % count → a ≡ b
one_turn count a b above near same = grind arith

-- The place was claimed, as far as tail knows, and not taken.
pub record Stands (core : Core) (place : ℕ) : Type 0 where
  pub low : core.front ≤ place
  pub high : place < core.tail

-- Standing places that use one cell are one place.
pub one_standing : (core : Core) (a b : ℕ) → core.tail ≤ core.front + core.size.cells → Stands core a → Stands core b
    → a % core.size.cells ≡ b % core.size.cells → a ≡ b
one_standing core a b near at_a at_b same = grind (arith, one_turn)

-- an event of the log has its place below tail
pub logged_below : (core : Core) (place : ℕ) (event : Event) → Sound core → slice_get core.log place ≡ Some event → place < core.tail
logged_below core place event sound logged = omega (arith, slice_get_within core.log place event logged, sound.tail)

-- A place that a writer holds stands.
pub held_stands : (core : Core) (writer place : ℕ) (kind : Kind) (is_filled : Bool) → Sound core
    → IsIn core writer (Claimed place kind is_filled) → Stands core place
held_stands core writer place kind is_filled sound at =
    let was = sound.holds writer place kind is_filled at in
    record { low = was.standing; high = logged_below core place was.event sound was.logged }

-- Each place has a cell.
pub has_cell : (core : Core) (place : ℕ) → Sound core → place % core.size.cells < length core.cells
has_cell core place sound = grind arith

-- Its stamp is not ahead of tail.
pub stamp_low : (core : Core) (place : ℕ) → Sound core → (cell_at core place).stamp ≤ core.tail
stamp_low core place sound = sound.stamps (place % core.size.cells) empty_cell (has_cell core place sound)

pub cell_stored : (core : Core) (place : ℕ) (cell : RingCell) → Sound core → cell_at (with_cell place cell core) place ≡ cell
cell_stored core place cell sound = cell_of-set core.size.cells place cell core.cells (has_cell core place sound)

pub cell_spared : (core : Core) (place other : ℕ) (cell : RingCell) → Sound core → Stands core place → Stands core other → other ≢ place
    → cell_at (with_cell place cell core) other ≡ cell_at core other
cell_spared core place other cell sound at_place at_other apart =
    grind (arith, cell_of-kept, one_standing)
