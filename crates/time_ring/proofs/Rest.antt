-- The writers that are still to be started are the ring's.
use Rattle.std.proofs.Common.{◌≡◌, ◌∷◌, suc, List, All, subst, arith}
use Rattle.tmw_ring.specs.RingEnds.{RingIs, WriterIs, WriterOf}

pub of_rest : (ring : RingIs) (all rest : List WriterIs) (writer : WriterIs) → All (WriterOf ring) all → all ≡ writer ∷ rest
    → All (WriterOf ring) rest
of_rest ring all rest writer of is place fallback within =
    (subst (All (WriterOf ring)) is of) (suc place) fallback (omega arith)
