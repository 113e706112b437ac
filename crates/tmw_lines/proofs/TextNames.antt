-- A text names its header and its items: two lists of lines with one text are one.
use Rattle.tmw_lines.proofs.Shared.{AllByRecursion, AllFit, Grammar, IsFree, IsNaming, List, [], ap, append_assoc, arith, items_text, length, length-append, line, lines_text, recursion_from_All, refl, sym, ℕ, ◌++◌, ◌∙◌, ◌∷◌, ◌≡◌}
use Rattle.tmw_lines.proofs.Splits.{split_free}

-- a line and what follows it are fixed by the bytes
line-injective : (xs us ys vs : List ℕ) → IsFree 10 xs → IsFree 10 us → line xs ++ ys ≡ line us ++ vs → (xs ≡ us) × (ys ≡ vs)
line-injective xs us ys vs a b is =
    let e = sym (append_assoc xs (10 ∷ []) ys) ∙ is ∙ append_assoc us (10 ∷ []) vs in
    let parts = split_free 10 xs us (10 ∷ ys) (10 ∷ vs) a b refl refl e in grind arith

module _ {F H E : Type 0} (grammar : Grammar F H E) where
  -- an item's line is some bytes
  no_lines : (e : E) (es : List E) → [] ≡ items_text grammar (e ∷ es) → ⊥
  no_lines e es is =
      absurd (omega (
        arith,
        ap length is,
        length-append (line (grammar.item_text e)) (items_text grammar es),
        length-append (grammar.item_text e) (10 ∷ []),
      ))

  items_text-injective : IsNaming grammar → (format : F) (ds es : List E) → AllByRecursion (grammar.FitsItem format) ds
      → AllByRecursion (grammar.FitsItem format) es → items_text grammar ds ≡ items_text grammar es → ds ≡ es
  items_text-injective naming format [] [] a b is = refl
  items_text-injective naming format [] (e ∷ es) a b is = absurd (no_lines e es is)
  items_text-injective naming format (d ∷ ds) [] a b is = absurd (no_lines d ds (sym is))
  items_text-injective naming format (d ∷ ds) (e ∷ es) a b is =
      let parts = line-injective (grammar.item_text d) (grammar.item_text e) (items_text grammar ds) (items_text grammar es)
      (naming.free_item format d a.0) (naming.free_item format e b.0) is in
      ap (λ x. x ∷ ds) (naming.one_item format d e a.0 b.0 parts.0)
      ∙ ap (λ xs. e ∷ xs) (items_text-injective naming format ds es a.1 b.1 parts.1)

  pub lines_text-injective : IsNaming grammar → (a b : H) (ds es : List E) → AllFit grammar a ds → AllFit grammar b es
      → lines_text grammar a ds ≡ lines_text grammar b es → (a ≡ b) × (ds ≡ es)
  lines_text-injective naming a b ds es x y is =
      let parts = line-injective (grammar.header_text a) (grammar.header_text b) (items_text grammar ds)
      (items_text grammar es) (naming.free_header a x.header_fits) (naming.free_header b y.header_fits) is in
      let same = naming.one_header a b x.header_fits y.header_fits parts.0 in (
        same,
        items_text-injective naming (grammar.format_of b) ds es
            (recursion_from_All (grammar.FitsItem (grammar.format_of b)) ds (rw same at x.items_fit))
            (recursion_from_All (grammar.FitsItem (grammar.format_of b)) es y.items_fit) parts.1,
      )
