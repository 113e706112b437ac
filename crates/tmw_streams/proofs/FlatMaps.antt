-- Texts one after another, up to one of them and beyond it.
use Rattle.tmw_streams.proofs.Shared.{[], add-one, ap, append-nil, drop, drop-cons, flat_map, flat_map-append, get_or, length, List, sym, take, take-add, take-append-drop, ℕ, ◌++◌, ◌+◌, ◌<◌, ◌∙◌, ◌∷◌, ◌≡◌}

module _ {A : Type 0} (text : A → List ℕ) (items : List A) (i : ℕ) (item fallback : A) where
  -- the items from this one on
  from_item : item ≡ get_or items i fallback → i < length items → drop i items ≡ item ∷ drop (i + 1) items
  from_item is within =
      drop-cons items i fallback within ∙ ap (λ n. get_or items i fallback ∷ drop n items) (sym (add-one i))
      ∙ ap (λ x. x ∷ drop (i + 1) items) (sym is)

  -- the texts up to an item, and its own
  pub flat_map-take : item ≡ get_or items i fallback → i < length items
      → flat_map text (take i items) ++ text item ≡ flat_map text (take (i + 1) items)
  flat_map-take is within =
      let one : take (i + 1) items ≡ take i items ++ item ∷ [] =
      take-add i 1 items ∙ ap (λ xs. take i items ++ take 1 xs) (from_item is within) in
      sym (ap (flat_map text) one ∙ flat_map-append text (take i items) (item ∷ [])
      ∙ ap (λ xs. flat_map text (take i items) ++ xs) (append-nil (text item)))

  -- the texts before an item, its own, and all that follow
  pub flat_map-split : item ≡ get_or items i fallback → i < length items
      → flat_map text items ≡ flat_map text (take i items) ++ (text item ++ flat_map text (drop (i + 1) items))
  flat_map-split is within =
      let parts : items ≡ take i items ++ (item ∷ drop (i + 1) items) =
      sym (take-append-drop i items) ∙ ap (λ xs. take i items ++ xs) (from_item is within) in
      ap (flat_map text) parts ∙ flat_map-append text (take i items) (item ∷ drop (i + 1) items)
