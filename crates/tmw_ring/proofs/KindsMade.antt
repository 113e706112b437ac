-- The kinds of the events for which places were claimed, of one list of places behind another.
use Rattle.tmw_ring.proofs.Shared.{Kind, List, Made, [], ap, refl, ◌++◌, ◌∷◌, ◌≡◌}
use Rattle.tmw_ring.specs.WriterKinds.{kinds_made}

pub kinds_made-append : (old fresh : List Made) → kinds_made (old ++ fresh) ≡ kinds_made old ++ kinds_made fresh
kinds_made-append [] fresh = refl
kinds_made-append (made ∷ old) fresh = ap (λ (kinds : List Kind). made.event.kind ∷ kinds) (kinds_made-append old fresh)
