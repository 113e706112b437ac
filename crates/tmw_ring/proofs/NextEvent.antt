-- The next event that is left of a ring is the one whose words are read.
use Rattle.tmw_ring.proofs.Shared.{Event, FitsKind, HasEvent, List, ap, arith, event_at, events_from, get_elem?, header_at, header_of, pack, some, stamp_of, stamp_word, suc, sym, unpacked, unpacked-pack, value_at, value_word, ℕ, ◌+◌, ◌-◌, ◌∙◌, ◌∷◌, ◌≡◌, ◌≢◌, ◌≤◌}
use Rattle.tmw_ring.proofs.Words.{word_read}

-- The two words of the place's cell, the first of them split, were found.
pub record Found (words : List ℕ) (cells place first value : ℕ) (halves : ℕ × ℕ) : Type 0 where
  pub at_first : get_elem? words (stamp_word cells place) ≡ some first
  pub at_second : get_elem? words (value_word cells place) ≡ some value
  pub split : halves ≡ (stamp_of first, header_of first)

found_words : (words : List ℕ) (cells place first value : ℕ) (halves : ℕ × ℕ) → Found words cells place first value halves
    → (halves.1 ≡ header_at words cells place) × (value ≡ value_at words cells place)
found_words words cells place first value halves found = grind (arith, word_read)

-- The event that the words tell is the first that is left.
pub next_left : (words : List ℕ) (cells front tail first value : ℕ) (halves : ℕ × ℕ) (event : Event)
    → Found words cells front first value halves → front ≤ tail → front ≢ tail → pack event ≡ (halves.1, value)
    → events_from words cells front (tail - front) ≡ event ∷ events_from words cells (front + 1) (tail - (front + 1))
next_left words cells front tail first value halves event found order apart packed =
    let is = found_words words cells front first value halves found in
    let count : tail - front ≡ suc (tail - (front + 1)) = omega arith in
    grind (arith, unpacked, event_at, value_at, unpacked-pack, events_from)

-- They do tell an event.
pub some_event : (words : List ℕ) (cells front first value : ℕ) (halves : ℕ × ℕ) → Found words cells front first value halves
    → HasEvent words cells front → ((event : Event) → FitsKind event.kind → pack event ≡ (halves.1, value) → ⊥) → ⊥
some_event words cells front first value halves found has none =
    let is = found_words words cells front first value halves found in
    none (event_at words cells front) has.fits
    (has.packed ∙ ap (λ (h : ℕ). let pair : ℕ × ℕ = (h, value_at words cells front) in pair) (sym is.0)
    ∙ ap (λ (v : ℕ). let pair : ℕ × ℕ = (halves.1, v) in pair) (sym is.1))
