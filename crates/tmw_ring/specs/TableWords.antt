-- The words of a ring's table: tail, front, and two for each cell, and where they stand. What writers change at each event and what the
-- reader does stand in lines of memory of their own, so that neither waits for the other's line. Nor, of sixteen, do cells that follow
-- one another share a line, so that threads that record at once wait less for each other's. In the code `words_at`
-- (src/cell_layout.rt) says where a cell's words stand, and `join` and `split` of tmw_events make a first word and take it apart.
use Rattle.tmw_ring.specs.Shared.{Core, stamped}
use Rattle.std.specs.Prelude.{List, [], get_or, length, suc, zero, ℕ, ◌%◌, ◌*◌, ◌+◌, ◌/◌, ◌∷◌}
use Rattle.tmw_ring_defs.specs.RingCells.{empty_cell}
use Rattle.tmw_ring_defs.specs.declared.ring_cell.RingCell.{RingCell}

-- two words for each cell
abbrev pub cell_words : List RingCell → List ℕ
cell_words [] = []
cell_words (cell ∷ cells) = stamped cell.stamp cell.header ∷ cell.value ∷ cell_words cells

-- fifteen words that nothing uses, and behind them these: a line of memory has at most sixteen
abbrev pub apart : List ℕ → List ℕ
apart words = 0 ∷ 0 ∷ 0 ∷ 0 ∷ 0 ∷ 0 ∷ 0 ∷ 0 ∷ 0 ∷ 0 ∷ 0 ∷ 0 ∷ 0 ∷ 0 ∷ 0 ∷ words

-- Where a cell stands among the cells. Sixteen are four lines of memory, of 64 bytes each: as in a square of four by four, rows and columns are exchanged.
abbrev pub crossed : ℕ → ℕ
crossed cell = cell / 16 * 16 + cell % 4 * 4 + cell / 4 % 4

-- so many cells, and those that the last sixteen lack
abbrev pub whole : ℕ → ℕ
whole cells = (cells + 15) / 16 * 16

-- the cells that stand at so many places from this one on: an empty one where there is none
abbrev pub standing : List RingCell → ℕ → ℕ → List RingCell
standing cells from zero = []
standing cells from (suc count) = get_or cells (crossed from) empty_cell ∷ standing cells (from + 1) count

abbrev pub words_of : Core → List ℕ
words_of core = core.tail ∷ apart (core.front ∷ apart (cell_words (standing core.cells 0 (whole (length core.cells)))))

-- how many words a ring with so many cells has
abbrev pub word_count : ℕ → ℕ
word_count cells = 32 + 2 * whole cells

-- where tail stands, and where front
abbrev pub tail_word : ℕ
tail_word = 0

abbrev pub front_word : ℕ
front_word = 16

-- where the first word of a place's cell stands, and where the second, in a ring with so many cells
abbrev pub stamp_word : ℕ → ℕ → ℕ
stamp_word cells place = 32 + 2 * crossed (place % cells)

abbrev pub value_word : ℕ → ℕ → ℕ
value_word cells place = 33 + 2 * crossed (place % cells)
