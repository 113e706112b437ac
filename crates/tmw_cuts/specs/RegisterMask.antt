-- Some of the registers: as a mask, or as two lists, of which the first says which they are, and the second has their values.
use Rattle.tmw_cuts.specs.Shared.{State, bit_at, range_with_len}
use Rattle.std.specs.Prelude.{Bool, List, [], if◌then◌else◌, map, not, true, ℕ, ◌&&◌, ◌==◌, ◌||◌, ◌∷◌, ◌≡◌}

-- Bit r of the mask is 1 exactly where the test holds of r: the mask is of these registers, and has no other bit.
abbrev pub IsMaskOf : (ℕ → Bool) → ℕ → Type 0
IsMaskOf holds mask = (r : ℕ) → (bit_at mask r == 1) ≡ holds r

-- of each register, whether the mask has it
unfoldable pub chosen : ℕ → List Bool
chosen mask = map (λ r. bit_at mask r == 1) (range_with_len 0 8)

-- each of them has its value in the state
abbrev pub have : List Bool → List ℕ → State → Bool
have [] vs s = true
have (d ∷ ds) [] s = true
have (d ∷ ds) (v ∷ vs) [] = true
have (d ∷ ds) (v ∷ vs) (x ∷ s) = (not d || (x == v)) && have ds vs s

-- the state with the values in them
abbrev pub put : List Bool → List ℕ → State → State
put [] vs s = s
put (d ∷ ds) [] s = s
put (d ∷ ds) (v ∷ vs) [] = []
put (d ∷ ds) (v ∷ vs) (x ∷ s) = (if d then v else x) ∷ put ds vs s
