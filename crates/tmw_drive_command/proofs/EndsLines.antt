-- The compact text of the object of the ends, and a line feed after it, are the line of the ends.
use Rattle.std.proofs.Common.{List, [], ap, append_assoc, ap₂, codes, false, map, refl, true, ℕ, ◌++◌, ◌∙◌, ◌∷◌, ◌≡◌}
use Rattle.tmw_drive_command.specs.EndsLine.{end_data, ends_object}
use Rattle.serde_json.specs.View.{items_of}
use Rattle.serde_json.specs.Data.{Data}
use Rattle.serde_json.specs.Written.{compact_text, has_float, items_have_float, items_text}
use Rattle.serde_json.proofs.OnLiterals.{serde_json_on_literals}
use Rattle.tmw_workers.specs.declared.ending.Ending.{Ending}
use Rattle.tmw_workers.specs.declared.ending.Ending.TheVariants.{Done, Left, Stopped}
use Rattle.tmw_ring.specs.declared.refused.Refused.TheVariants.{Full, Spent}
use Rattle.tmw_drive_command.specs.Ends.{end_text, ends_line, more_ends}

items_have_float-end_data : (ends : List Ending) → items_have_float (items_of (map end_data ends)) ≡ false
items_have_float-end_data [] = refl
items_have_float-end_data (end ∷ ends) = items_have_float-end_data ends

has_float-ends_object : (ends : List Ending) → has_float (ends_object ends) ≡ false
has_float-ends_object ends = rw (items_have_float-end_data ends) refl

compact_text-end_data : (end : Ending) → compact_text (end_data end) ≡ end_text end
unfolding serde_json_on_literals
compact_text-end_data Done = refl
compact_text-end_data Left = refl
compact_text-end_data (Stopped (Full front tail)) = refl
compact_text-end_data (Stopped (Spent tail)) = refl

items_text-more : (ends : List Ending) → items_text true (items_of (map end_data ends)) ≡ more_ends ends ++ 93 ∷ []
items_text-more [] = refl
items_text-more (end ∷ ends) =
    ap₂ (λ (text rest : List ℕ). codes "," ++ (text ++ rest)) (compact_text-end_data end) (items_text-more ends)
    ∙ simp append_assoc refl

compact_text-ends_object : (ends : List Ending) → compact_text (ends_object ends) ++ 10 ∷ [] ≡ ends_line ends
unfolding serde_json_on_literals
compact_text-ends_object [] = refl
compact_text-ends_object (end ∷ ends) =
    ap₂ (λ (text rest : List ℕ). codes "{\"ends\":[" ++ (((text ++ rest) ++ codes "}") ++ codes "\n")) (compact_text-end_data end) (items_text-more ends)
    ∙ simp append_assoc refl

-- a value that is this object, and its text
pub ends_object-line : (ends : List Ending) (value : Data) (text : List ℕ) → value ≡ ends_object ends
    → (has_float value ≡ false → text ≡ compact_text value) → text ++ 10 ∷ [] ≡ ends_line ends
ends_object-line ends value text is told =
    ap (λ xs. xs ++ 10 ∷ []) (told (ap has_float is ∙ has_float-ends_object ends) ∙ ap compact_text is) ∙ compact_text-ends_object ends
