-- The compact text of the object of the counts, and a line feed after it, are their line.
use Rattle.tmw_report.proofs.Shared.{List, [], ap, append_assoc, false, refl, ℕ, ◌++◌, ◌∙◌, ◌∷◌, ◌≡◌}
use Rattle.serde_json.specs.Data.{Data}
use Rattle.serde_json.specs.Written.{compact_text, has_float}
use Rattle.serde_json.proofs.OnLiterals.{serde_json_on_literals}
use Rattle.tmw_defs.specs.declared.counts.Counts.{Counts}
use Rattle.tmw_report.specs.SummaryLine.{summary_object, summary_text}

compact_text-summary_object : (counts : Counts) → compact_text (summary_object counts) ++ 10 ∷ [] ≡ summary_text counts
unfolding serde_json_on_literals
compact_text-summary_object counts = simp append_assoc refl

pub summary_object-line : (counts : Counts) (value : Data) (text : List ℕ)
    → value ≡ summary_object counts → (has_float value ≡ false → text ≡ compact_text value) → text ++ 10 ∷ [] ≡ summary_text counts
summary_object-line counts value text is told =
    ap (λ xs. xs ++ 10 ∷ []) (told (ap has_float is) ∙ ap compact_text is) ∙ compact_text-summary_object counts
