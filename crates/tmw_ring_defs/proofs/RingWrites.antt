-- A store to the cell of a place by the writer that holds it leaves a sound state, if it does so at that place.
use Rattle.tmw_ring_defs.proofs.Shared.{All-set, Bool, Claimed, Core, Holds, IsHeld, IsIn, IsPublished, Kind, Looked, RingCell, Sound, Spares, WriterPhase, arith, cases_eq, cell_at, cleared, inl, inr, length-set, one_if_cleared, refl, slice_set, subst, sym, with_cell, with_phase, ℕ, ◌%◌, ◌+◌, ◌<◌, ◌∙◌, ◌≡◌, ◌≢◌, ◌≤◌, ◌⊎◌}
use Rattle.tmw_ring_defs.proofs.RingPhases.{phase_kept, phase_cases, two_writers, claimed_parts, cleared-set}
use Rattle.tmw_ring_defs.proofs.RingPlaces.{published_still, holds_still, read_still}
use Rattle.tmw_ring_defs.proofs.RingStores.{logged_below, held_stands, length-set_cell, cell_spared}

-- the state after the writer stored these words at the place and went on to the phase
abbrev pub stored : ℕ → ℕ → RingCell → WriterPhase → Core → Core
stored writer place cell phase core = with_phase writer phase (with_cell place cell core)

-- What such a store has to see to: no stamp is ahead of tail, the writer goes on to hold the place or nothing, and the place is
-- still held or is published.
pub record IsFit (old : Core) (writer place : ℕ) (cell : RingCell) (phase : WriterPhase) : Type 0 where
  pub low : cell.stamp ≤ old.tail
  pub uncleared : one_if_cleared phase ≡ 0
  pub unlooked : (kind : Kind) (front : ℕ) → phase ≢ Looked kind front
  pub left : IsHeld (stored writer place cell phase old) place ⊎ IsPublished (stored writer place cell phase old) place
  pub holds : (p : ℕ) (kind : Kind) (is_filled : Bool) → phase ≡ Claimed p kind is_filled
      → (p ≡ place) × Holds (stored writer place cell phase old) writer p kind is_filled

-- A published place is not the one that is held, so its cell is spared.
store-spares : (old : Core) (writer place : ℕ) (kind : Kind) (is_filled : Bool) (cell : RingCell) → Sound old
    → IsIn old writer (Claimed place kind is_filled) → (other : ℕ) → old.front ≤ other → IsPublished old other
    → cell_at (with_cell place cell old) other ≡ cell_at old other
store-spares old writer place kind is_filled cell sound at other low published =
    let mine = sound.holds writer place kind is_filled at in
    grind (arith, cell_spared, held_stands, logged_below)

store-places : (old : Core) (writer place : ℕ) (kind : Kind) (is_filled : Bool) (cell : RingCell) (phase : WriterPhase) → Sound old
    → IsIn old writer (Claimed place kind is_filled) → IsFit old writer place cell phase → (other : ℕ) → old.front ≤ other → other < old.tail
    → IsHeld (stored writer place cell phase old) other ⊎ IsPublished (stored writer place cell phase old) other
store-places old writer place kind is_filled cell phase sound at fit other low high =
    elim (cases_eq other place) [
      | inl same ↦ grind arith
      | inr apart ↦ elim (sound.places other low high) [
        | inl held ↦ grind (arith, two_writers, claimed_parts, phase_kept)
        | inr published ↦
            inr (published_still old (stored writer place cell phase old) other (λ p event logged. logged)
            (store-spares old writer place kind is_filled cell sound at other low published) published)
      ]
    ]

-- Nobody else held the place.
only : (old : Core) (writer place : ℕ) (kind : Kind) (is_filled : Bool) → Sound old → IsIn old writer (Claimed place kind is_filled)
    → (other p : ℕ) (found : Kind) (f : Bool) → IsIn old other (Claimed p found f) → p ≡ place → other ≡ writer
only old writer place kind is_filled sound at other p found f claimed same =
    sound.once other writer place found kind f is_filled (subst (λ (q : ℕ). IsIn old other (Claimed q found f)) same claimed) at

store-holds : (old : Core) (writer place : ℕ) (kind : Kind) (is_filled : Bool) (cell : RingCell) (phase : WriterPhase) → Sound old
    → IsIn old writer (Claimed place kind is_filled) → IsFit old writer place cell phase → (other p : ℕ) (found : Kind) (f : Bool)
    → IsIn (stored writer place cell phase old) other (Claimed p found f) → Holds (stored writer place cell phase old) other p found f
store-holds old writer place kind is_filled cell phase sound at fit other p found f claimed =
    elim (phase_cases old.writers writer other phase (Claimed p found f) claimed) [
      | inl set ↦
          subst (λ (w : ℕ). Holds (stored writer place cell phase old) w p found f) (sym set.0) (fit.holds p found f set.1).1
      | inr kept ↦
          let was = sound.holds other p found f kept.1 in
          let apart : p ≢ place = λ same. kept.0 (only old writer place kind is_filled sound at other p found f kept.1 same) in
          holds_still old (stored writer place cell phase old) other p found f (λ q event logged. logged) was.standing
          (cell_spared old place p cell sound (held_stands old writer place kind is_filled sound at)
          (held_stands old other p found f sound kept.1) apart)
          was
    ]

store-once : (old : Core) (writer place : ℕ) (kind : Kind) (is_filled : Bool) (cell : RingCell) (phase : WriterPhase) → Sound old
    → IsIn old writer (Claimed place kind is_filled) → IsFit old writer place cell phase
    → (a b p : ℕ) (k l : Kind) (f g : Bool) → IsIn (stored writer place cell phase old) a (Claimed p k f)
    → IsIn (stored writer place cell phase old) b (Claimed p l g) → a ≡ b
store-once old writer place kind is_filled cell phase sound at fit a b p k l f g at_a at_b =
    elim (cases a k f at_a) [
      | inl set_a ↦ elim (cases b l g at_b) [
        | inl set_b ↦ set_a.0 ∙ sym set_b.0
        | inr kept_b ↦
            absurd (kept_b.0 (only old writer place kind is_filled sound at b p l g kept_b.1 (fit.holds p k f set_a.1).0))
      ]
      | inr kept_a ↦ elim (cases b l g at_b) [
        | inl set_b ↦
            absurd (kept_a.0 (only old writer place kind is_filled sound at a p k f kept_a.1 (fit.holds p l g set_b.1).0))
        | inr kept_b ↦ sound.once a b p k l f g kept_a.1 kept_b.1
      ]
    ]
  where
    cases : (other : ℕ) (found : Kind) (h : Bool) → IsIn (stored writer place cell phase old) other (Claimed p found h)
        → ((other ≡ writer) × (phase ≡ Claimed p found h)) ⊎ ((other ≢ writer) × IsIn old other (Claimed p found h))
    cases other found h claimed =
        phase_cases old.writers writer other phase (Claimed p found h) claimed

pub store_keeps : (old : Core) (writer place : ℕ) (kind : Kind) (is_filled : Bool) (cell : RingCell) (phase : WriterPhase) → Sound old
    → IsIn old writer (Claimed place kind is_filled) → IsFit old writer place cell phase
    → Sound (stored writer place cell phase old) × Spares old (stored writer place cell phase old)
store_keeps old writer place kind is_filled cell phase sound at fit =
    let same : cleared (slice_set old.writers writer phase) + 0 ≡ cleared old.writers + one_if_cleared phase =
    cleared-set old.writers writer (Claimed place kind is_filled) phase at in
    let spares = store-spares old writer place kind is_filled cell sound at in (
      record {
        cells = length-set_cell old.size.cells place cell old.cells ∙ sound.cells;
        writers = length-set old.writers writer phase ∙ sound.writers;
        tail = sound.tail;
        front = sound.front;
        begins = sound.begins;
        order = sound.order;
        room = omega (arith, sound.room, same, fit.uncleared);
        limited = omega (arith, sound.limited, same, fit.uncleared);
        looks = λ other front found looked.
            elim (phase_cases old.writers writer other phase (Looked found front) looked) [
              | inl set ↦ absurd (fit.unlooked found front set.1)
              | inr kept ↦ sound.looks other front found kept.1
            ];
        places = store-places old writer place kind is_filled cell phase sound at fit;
        holds = store-holds old writer place kind is_filled cell phase sound at fit;
        once = store-once old writer place kind is_filled cell phase sound at fit;
        stamps = All-set (λ (c : RingCell). c.stamp ≤ old.tail) old.cells (place % old.size.cells) cell fit.low sound.stamps;
        reads = read_still old (stored writer place cell phase old) old.reader
            (λ was. (
              published_still old (stored writer place cell phase old) old.front (λ p event logged. logged)
                  (spares old.front (omega arith) was) was,
              refl,
            ))
            sound.reads;
      },
      spares,
    )
