use Rattle.tmw_ring.proofs.Shared.{List, Shown, [], ap, new_parts, opening, replicate, subst, sym, ℕ, ◌*◌, ◌+◌, ◌∙◌}
use Rattle.tmw_ring.proofs.Starts.{starts}
use Rattle.tmw_ring.proofs.new_ring.ring.Goals as goal

pub of_words-requires : goal.of_words-requires
of_words-requires c =
    let size = c.in_ok-size.size in
    let zeros = c.as_slice.ensures.value ∙ c.in_ok-words.ensures.items_if_clones_equal (λ y same. same)
    ∙ ap (λ (n : ℕ). replicate (32 + 2 * n) 0) c.whole.ensures in
    subst (λ (words : List ℕ). Shown size (opening words [] (new_parts size))) (sym zeros) (starts size)
