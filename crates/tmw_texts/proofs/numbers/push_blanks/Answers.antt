-- One blank more.
use Rattle.std.proofs.Common.{[], ap, append_assoc, rules, ◌++◌, ◌∙◌, ◌∷◌, ◌≡◌}
use Rattle.tmw_texts.specs.ItemTexts.{blanks}
use Rattle.std.proofs.lemmas.List.{replicate-append-replicate}
use Rattle.tmw_texts.proofs.numbers.push_blanks.Goals as goal

pub loop-place-preserved : goal.loop-place-preserved
loop-place-preserved c =
    let before = c.args.text.now.items in
    let now : c.push.new.self.items ≡ c.loop-place.text.items ++ 32 ∷ [] = search rules in
    now ∙ ap (λ xs. xs ++ 32 ∷ []) c.loop-place.invariant ∙ append_assoc before (blanks c.loop-place._place) (32 ∷ [])
    ∙ ap (λ xs. before ++ xs) (replicate-append-replicate c.loop-place._place 1 32)
