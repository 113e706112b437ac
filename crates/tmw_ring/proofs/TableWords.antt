-- Where a word of a place's cell stands in a ring's table, from where it stands in the ring that callers see.
use Rattle.tmw_ring.proofs.Shared.{IsRingTable, RingIs, RingSize, TableId, arith, word_count, ℕ, ◌<◌, ◌≡◌}

-- The word is within the table, and is that of the size that the table was told.
pub record InTable (stands : ℕ → ℕ → ℕ) (told : RingSize) (table : TableId) (place word : ℕ) : Type 0 where
  pub within : word < table.words
  pub told_at : word ≡ stands told.cells place

pub in_table : (stands : ℕ → ℕ → ℕ) → ((cells place : ℕ) → 0 < cells → stands cells place < word_count cells)
    → (size told : RingSize) (table : TableId) (ring : RingIs) (place word : ℕ) → IsRingTable size told table
    → record { table = table; size = size } ≡ ring → word ≡ stands ring.size.cells place → InTable stands told table place word
in_table stands below size told table ring place word is seen at = grind arith
