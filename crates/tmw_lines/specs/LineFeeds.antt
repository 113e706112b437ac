-- Lines as bytes.
use Rattle.std.specs.Prelude.{◌≡◌, ◌==◌, ◌+◌, ℕ, zero, suc, List, [], ◌∷◌, ◌++◌, take, drop}
use Rattle.std.specs.List.{position_or_len}

-- a text and the line feed that ends it
abbrev pub line : List ℕ → List ℕ
line text = text ++ 10 ∷ []

-- how many bytes stand before the first line feed, or how many there are
abbrev pub feed_at : List ℕ → ℕ
feed_at bytes = position_or_len (λ byte. byte == 10) bytes

-- the first line, without its line feed
abbrev pub front_of : List ℕ → List ℕ
front_of bytes = take (feed_at bytes) bytes

-- what follows the first line
abbrev pub behind_front : List ℕ → List ℕ
behind_front bytes = drop (feed_at bytes + 1) bytes

-- the line of this number, without its line feed; lines are counted from 1
abbrev pub line_at : ℕ → List ℕ → List ℕ
line_at zero bytes = []
line_at (suc zero) bytes = front_of bytes
line_at (suc (suc n)) bytes = line_at (suc n) (behind_front bytes)

-- the first line of the bytes held agrees with that of these bytes in the first 4,096
abbrev pub HoldsFront : List ℕ → List ℕ → Type 0
HoldsFront held bytes = take 4096 (front_of held) ≡ take 4096 (front_of bytes)
