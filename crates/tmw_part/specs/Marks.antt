-- Which events of a window are kept: a mark for each, in order.
use Rattle.tmw_part.specs.Shared.{Event, Piece, enumerate_from, is_of, list_any}
use Rattle.std.specs.Prelude.{Bool, List, length, map, not, slice_get, true, unwrap_or, zip, ℕ, ◌&&◌, ◌-◌}

-- The last event is kept.
abbrev pub keeps_last : List Bool → Bool
keeps_last marks = unwrap_or (slice_get marks (length marks - 1)) true

-- The event at this place is one of these pieces.
abbrev pub is_of_any : List Piece → ℕ → Event → Bool
is_of_any pieces place e = list_any (λ piece. is_of piece place e) pieces

-- The pieces are no longer kept. The first mark is of this place.
abbrev pub without_from : List Piece → ℕ → List Bool → List Event → List Bool
without_from pieces place marks window =
    map (λ pair. pair.1.0 && not (is_of_any pieces pair.0 pair.1.1)) (enumerate_from place (zip marks window))

unfoldable pub without : List Piece → List Bool → List Event → List Bool
without pieces marks window = without_from pieces 0 marks window
