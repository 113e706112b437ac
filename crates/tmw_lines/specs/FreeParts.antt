-- Parts of bytes that a certain byte ends.
use Rattle.std.specs.Prelude.{◌≡◌, ◌==◌, ℕ, Bool, true, not, List, [], ◌∷◌}
use Rattle.std.specs.List.{list_all}

-- none of these bytes is `stop`
abbrev pub IsFree : ℕ → List ℕ → Type 0
IsFree stop bytes = list_all (λ byte. not (byte == stop)) bytes ≡ true

-- nothing, or bytes that begin with `stop`
abbrev pub is_next : ℕ → List ℕ → Bool
is_next stop [] = true
is_next stop (byte ∷ bytes) = byte == stop
