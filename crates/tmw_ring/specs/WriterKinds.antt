-- What a writer has recorded, without its places.
use Rattle.std.specs.Prelude.{List, [], ◌∷◌}
use Rattle.tmw_events.specs.declared.event.Kind.{Kind}
use Rattle.tmw_ring.specs.declared.seat_part.Made.{Made}

-- the kinds of the events for which these places were claimed
abbrev pub kinds_made : List Made → List Kind
kinds_made [] = []
kinds_made (made ∷ more) = made.event.kind ∷ kinds_made more
