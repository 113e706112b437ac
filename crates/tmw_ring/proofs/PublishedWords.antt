-- What the words of published places' cells tell: the log's events.
use Rattle.tmw_ring.proofs.Shared.{Core, Event, HasEvent, IsPublished, IsReal, List, Some, Sound, [], ap, arith, cell_at, drop, drop_all, empty_cell, event_at, events_from, has_cell, header_at, header_of, kind_value, packed_header, same_Some, slice_get, stamped-parts, suc, unpacked-pack, value_at, words_of, zero, ℕ, ◌%◌, ◌+◌, ◌<◌, ◌∙◌, ◌∷◌, ◌≡◌, ◌≤◌}
use Rattle.tmw_ring.proofs.Words.{stamp_found, value_found}

-- The words of a published place's cell are its event's.
pub record Read (core : Core) (place : ℕ) (event : Event) : Type 0 where
  pub header : header_at (words_of core) core.size.cells place ≡ packed_header event
  pub value : value_at (words_of core) core.size.cells place ≡ kind_value event.kind
  pub told : event_at (words_of core) core.size.cells place ≡ event

read_published : (core : Core) (place : ℕ) → Sound core → IsReal core → (published : IsPublished core place)
    → Read core place published.event
read_published core place sound real published =
    let small = real.headers (place % core.size.cells) empty_cell (has_cell core place sound) in
    let cell = cell_at core place in
    let header : header_at (words_of core) core.size.cells place ≡ packed_header published.event =
    ap header_of (stamp_found core place (has_cell core place sound)) ∙ (stamped-parts cell.stamp cell.header small).1 ∙ published.shown.header in
    grind (arith, value_found, unpacked-pack)

pub has_event : (core : Core) (place : ℕ) → Sound core → IsReal core → IsPublished core place
    → HasEvent (words_of core) core.size.cells place
has_event core place sound real published = grind (arith, read_published)

-- what is left from a place on begins with the item there
drop_next : (items : List Event) (place : ℕ) (item : Event) → slice_get items place ≡ Some item
    → drop place items ≡ item ∷ drop (suc place) items
drop_next [] place item at = absurd (cc)
drop_next (first ∷ items) zero item at = ap (λ (e : Event). e ∷ items) (same_Some first item at)
drop_next (first ∷ items) (suc place) item at = drop_next items place item at

-- The events that the words have are the log's from there on.
pub events_logged : (core : Core) (place count : ℕ) → Sound core → IsReal core → core.front ≤ place → place + count ≡ core.tail
    → ((at : ℕ) → core.front ≤ at → at < core.tail → IsPublished core at)
    → events_from (words_of core) core.size.cells place count ≡ drop place core.log
events_logged core place zero sound real low is published = grind (arith, drop_all)
events_logged core place (suc count) sound real low is published =
    let at = published place low (omega arith) in
    let more =
    events_logged core (place + 1) count sound real (omega (arith, low)) (omega (arith, is)) published in
    grind (arith, read_published, events_from, words_of, drop, drop_next)
