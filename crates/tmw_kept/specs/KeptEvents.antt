-- Which events of a window are kept: a mark for each, in order.
use Rattle.tmw_kept.specs.Shared.{Event, enumerate_from, list_any}
use Rattle.std.specs.Prelude.{Bool, List, filter, length, map, replicate, true, zip, ℕ, ◌==◌}

-- Each event is kept.
abbrev pub all_kept : List Event → List Bool
all_kept window = replicate (length window) true

-- The events that are kept.
abbrev pub kept_of : List Bool → List Event → List Event
kept_of marks events = map (λ pair. pair.1) (filter (λ pair. pair.0) (zip marks events))

-- The places of those that are kept.
abbrev pub places_of : List Bool → List ℕ
places_of marks = map (λ pair. pair.0) (filter (λ pair. pair.1) (enumerate_from 0 marks))

-- The place is one of these.
abbrev pub is_among : ℕ → List ℕ → Bool
is_among n places = list_any (λ p. p == n) places
