-- The parts of writers that come back, put into one seat one after another.
use Rattle.tmw_ring.proofs.Shared.{All, List, RingIs, WriterIs, WriterOf, [], arith, get_or, length, refl, ◌++◌, ◌<◌, ◌∷◌, ◌≡◌}

-- The item between two parts of a list stands at the first part's length.
middle : {A : Type 0} (before : List A) (item : A) (after : List A)
    → (length before < length (before ++ item ∷ after)) × (get_or (before ++ item ∷ after) (length before) item ≡ item)
middle [] item after = (omega arith, refl)
middle (first ∷ before) item after = let rest = middle before item after in (omega (arith, rest.0), rest.1)

-- What holds of all writers holds of the one between those that came before and those that are left.
pub of_all : (ring : RingIs) (writers before after : List WriterIs) (writer : WriterIs) → All (WriterOf ring) writers
    → writers ≡ before ++ writer ∷ after → WriterOf ring writer
of_all ring writers before after writer all is = grind (arith, middle)
