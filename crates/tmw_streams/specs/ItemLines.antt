-- Items as lines.
use Rattle.std.specs.Prelude.{ℕ, List, [], ◌∷◌, ◌++◌}
use Rattle.std.specs.List.{flat_map}

-- for each item its text, and the line feed that ends it
abbrev pub lines_of : {I : Type 0} → (I → List ℕ) → List I → List ℕ
lines_of text items = flat_map (λ item. text item ++ 10 ∷ []) items
