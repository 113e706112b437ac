-- What a ring's words tell of its state, and what a store to one of them leaves.
use Rattle.tmw_ring.proofs.Shared.{Core, Event, Kind, List, RingCell, RingSize, [], ap, apart, ap₂, arith, cell_at, cell_words, crossed, empty_cell, filled, get_elem?, get_or, get_or-set_other, get_or-set_same, joined, kind_value, length, length-replicate, length-set, new_core, packed_header, published, refl, replicate, set, slice_index, some, some-injective, some-ne-none, stamp_word, stamped, standing, suc, sym, value_word, whole, with_cell, word_count, words_of, zero, ℕ, ◌%◌, ◌*◌, ◌+◌, ◌<◌, ◌∙◌, ◌∷◌, ◌≡◌, ◌≢◌}
use Rattle.std.proofs.Math.Nat.{mod-lt}

-- Each cell stands within the table, and the cell that stands there is that cell.
crossed-within : (cells cell : ℕ) → cell < cells → crossed cell < whole cells
crossed-within cells cell low = omega (arith, low)

crossed-crossed : (cell : ℕ) → crossed (crossed cell) ≡ cell
crossed-crossed cell = omega arith

apart-crossed : (one other : ℕ) → one ≢ other → crossed one ≢ crossed other
apart-crossed one other apart same = apart (sym (crossed-crossed one) ∙ ap crossed same ∙ crossed-crossed other)

-- Each place has its words in the table.
pub stamp_word-within : (cells place : ℕ) → 0 < cells → stamp_word cells place < word_count cells
stamp_word-within cells place any = omega (arith, crossed-within cells (place % cells) (mod-lt place any))

pub value_word-within : (cells place : ℕ) → 0 < cells → value_word cells place < word_count cells
value_word-within cells place any = omega (arith, crossed-within cells (place % cells) (mod-lt place any))

-- which cell stands at a place
stands : (cells : List RingCell) (from count at place : ℕ) → at < count → place ≡ from + at
    → get_or (standing cells from count) at empty_cell ≡ get_or cells (crossed place) empty_cell
stands cells from zero at place low is = absurd (omega arith)
stands cells from (suc count) zero place low is = grind arith
stands cells from (suc count) (suc at) place low is = stands cells (from + 1) count at place (omega (arith, low)) (omega (arith, is))

-- A cell that stands before the places changes none.
none_stands : (cells : List RingCell) (new : RingCell) (from count place : ℕ) → place < from
    → standing (set cells (crossed place) new) from count ≡ standing cells from count
none_stands cells new from zero place low = refl
none_stands cells new from (suc count) place low =
    let more = none_stands cells new (from + 1) count place (omega arith) in
    grind (arith, apart-crossed, ap₂, get_or-set_other, crossed, empty_cell)

-- A cell that changes does so where it stands.
one_stands : (cells : List RingCell) (new : RingCell) (from count at place : ℕ) → at < count → place ≡ from + at → crossed place < length cells
    → set (standing cells from count) at new ≡ standing (set cells (crossed place) new) from count
one_stands cells new from zero at place low is there = absurd (omega arith)
one_stands cells new from (suc count) zero place low is there =
    grind (arith, get_or-set_same, none_stands)
one_stands cells new from (suc count) (suc at) place low is there =
    let other = apart-crossed from place (λ same. absurd (omega (arith, same))) in
    ap₂ (λ (c : RingCell) (l : List RingCell). c ∷ l) (sym (get_or-set_other cells (crossed place) (crossed from) new empty_cell other))
    (one_stands cells new (from + 1) count at place (omega (arith, low)) (omega (arith, is)) there)

-- all cells, as they stand
abbrev table : List RingCell → List RingCell
table cells = standing cells 0 (whole (length cells))

in_table : (cells : List RingCell) (cell : ℕ) → cell < length cells → get_or (table cells) (crossed cell) empty_cell ≡ get_or cells cell empty_cell
in_table cells cell there =
    stands cells 0 (whole (length cells)) (crossed cell) (crossed cell) (crossed-within (length cells) cell there) (omega arith)
    ∙ ap (λ (n : ℕ). get_or cells n empty_cell) (crossed-crossed cell)

set_table : (cells : List RingCell) (cell : ℕ) (new : RingCell) → cell < length cells
    → set (table cells) (crossed cell) new ≡ table (set cells cell new)
set_table cells cell new there = grind (arith, one_stands, length-set)

-- sixteen more
abbrev more : ℕ → ℕ
more n = suc (suc (suc (suc (suc (suc (suc (suc (suc (suc (suc (suc (suc (suc (suc (suc n)))))))))))))))

-- what stands in the words of the cell with this index
first_at : (cells : List RingCell) (k : ℕ)
    → get_or (cell_words cells) (2 * k) 0 ≡ stamped (get_or cells k empty_cell).stamp (get_or cells k empty_cell).header
first_at [] k = refl
first_at (cell ∷ cells) zero = refl
first_at (cell ∷ cells) (suc k) = let e : 2 * suc k ≡ suc (suc (2 * k)) = omega arith in rw e (first_at cells k)

second_at : (cells : List RingCell) (k : ℕ) → get_or (cell_words cells) (suc (2 * k)) 0 ≡ (get_or cells k empty_cell).value
second_at [] k = refl
second_at (cell ∷ cells) zero = refl
second_at (cell ∷ cells) (suc k) = let e : 2 * suc k ≡ suc (suc (2 * k)) = omega arith in rw e (second_at cells k)

pub stamp_found : (core : Core) (place : ℕ) → place % core.size.cells < length core.cells
    → slice_index (words_of core) (stamp_word core.size.cells place) ≡ stamped (cell_at core place).stamp (cell_at core place).header
stamp_found core place there =
    let k : ℕ = place % core.size.cells in
    let e : 32 + 2 * crossed k ≡ more (more (2 * crossed k)) = omega arith in
    grind (arith, first_at, in_table)

pub value_found : (core : Core) (place : ℕ) → place % core.size.cells < length core.cells
    → slice_index (words_of core) (value_word core.size.cells place) ≡ (cell_at core place).value
value_found core place there =
    let k : ℕ = place % core.size.cells in
    let e : 33 + 2 * crossed k ≡ more (more (suc (2 * crossed k))) = omega arith in
    grind (arith, second_at, in_table)

-- what a store to the words of the cell with this index leaves
first_set : (cells : List RingCell) (k stamp header : ℕ)
    → set (cell_words cells) (2 * k) (stamped stamp header)
    ≡ cell_words (set cells k (record (get_or cells k empty_cell) { stamp = stamp; header = header }))
first_set [] k stamp header = refl
first_set (cell ∷ cells) zero stamp header = refl
first_set (cell ∷ cells) (suc k) stamp header = grind (arith, (first_set cells k stamp header))

second_set : (cells : List RingCell) (k value : ℕ)
    → set (cell_words cells) (suc (2 * k)) value ≡ cell_words (set cells k (record (get_or cells k empty_cell) { value = value }))
second_set [] k value = refl
second_set (cell ∷ cells) zero value = refl
second_set (cell ∷ cells) (suc k) value = grind (arith, (second_set cells k value))

-- The words after a fill.
pub filled_words : (core : Core) (place : ℕ) (kind : Kind) → place % core.size.cells < length core.cells
    → set (words_of core) (value_word core.size.cells place) (kind_value kind)
    ≡ words_of (with_cell place (filled kind (cell_at core place)) core)
filled_words core place kind there =
    let k : ℕ = place % core.size.cells in
    let e : 33 + 2 * crossed k ≡ more (more (suc (2 * crossed k))) = omega arith in
    ap (λ (i : ℕ). set (words_of core) i (kind_value kind)) e
    ∙ ap (λ (words : List ℕ). core.tail ∷ apart (core.front ∷ apart words))
    (second_set (table core.cells) (crossed k) (kind_value kind)
    ∙ ap (λ (cell : RingCell). cell_words (set (table core.cells) (crossed k) (filled kind cell))) (in_table core.cells k there)
    ∙ ap cell_words (set_table core.cells k (filled kind (cell_at core place)) there))

-- The words after a publish.
pub published_words : (core : Core) (place : ℕ) (event : Event) → place % core.size.cells < length core.cells
    → set (words_of core) (stamp_word core.size.cells place) (joined place (packed_header event))
    ≡ words_of (with_cell place (published place event (cell_at core place)) core)
published_words core place event there =
    let k : ℕ = place % core.size.cells in
    let e : 32 + 2 * crossed k ≡ more (more (2 * crossed k)) = omega arith in
    ap (λ (i : ℕ). set (words_of core) i (joined place (packed_header event))) e
    ∙ ap (λ (words : List ℕ). core.tail ∷ apart (core.front ∷ apart words))
    (first_set (table core.cells) (crossed k) (place + 1) (packed_header event)
    ∙ ap (λ (cell : RingCell). cell_words (set (table core.cells) (crossed k) (published place event cell))) (in_table core.cells k there)
    ∙ ap cell_words (set_table core.cells k (published place event (cell_at core place)) there))

cell_words-empty : (count : ℕ) → cell_words (replicate count empty_cell) ≡ replicate (2 * count) 0
cell_words-empty zero = refl
cell_words-empty (suc count) =
    let e : 2 * suc count ≡ suc (suc (2 * count)) = omega arith in cc (cell_words-empty count)

empty_at : (count at : ℕ) → get_or (replicate count empty_cell) at empty_cell ≡ empty_cell
empty_at zero at = refl
empty_at (suc count) zero = refl
empty_at (suc count) (suc at) = empty_at count at

standing-empty : (cells from count : ℕ) → standing (replicate cells empty_cell) from count ≡ replicate count empty_cell
standing-empty cells from zero = refl
standing-empty cells from (suc count) =
    ap (λ (c : RingCell). c ∷ standing (replicate cells empty_cell) (from + 1) count) (empty_at cells (crossed from))
    ∙ ap (λ (l : List RingCell). empty_cell ∷ l) (standing-empty cells (from + 1) count)

-- All words of a new ring are 0.
pub new_words : (size : RingSize) → replicate (word_count size.cells) 0 ≡ words_of (new_core size)
new_words size =
    let count : ℕ = whole size.cells in
    let e : 32 + 2 * count ≡ more (more (2 * count)) = omega arith in
    grind (arith, length-replicate, cell_words-empty, standing-empty)

-- a word that was read from the words themselves
pub word_read : (words : List ℕ) (word found : ℕ) → get_elem? words word ≡ some found → slice_index words word ≡ found
word_read [] word found at = absurd (some-ne-none found (sym at))
word_read (first ∷ words) zero found at = some-injective first found at
word_read (first ∷ words) (suc word) found at = word_read words word found at
