-- How the first line of bytes begins, and which line of a text has a number.
use Rattle.tmw_lines.proofs.Shared.{AllByRecursion, AllFit, Grammar, HoldsFront, IsFree, IsNaming, List, [], ap, append-nil, append_assoc, arith, behind_front, drop, drop-append-add, feed_at, front_of, items_text, length, line, line_at, lines_text, recursion_from_All, refl, suc, sym, take, take-append-add, take-append-le, ℕ, ◌++◌, ◌+◌, ◌∙◌, ◌∷◌, ◌≡◌}
use Rattle.tmw_lines.proofs.Splits.{position_or_len-free}

-- what is free of line feeds stands before the first
pub front-append : (xs ys : List ℕ) → IsFree 10 xs → front_of (xs ++ ys) ≡ xs ++ front_of ys
front-append xs ys free =
    ap (λ n. take n (xs ++ ys)) (position_or_len-free 10 xs ys free) ∙ take-append-add xs ys (feed_at ys)

pub holds-same : (held bytes : List ℕ) → held ≡ bytes → HoldsFront held bytes
holds-same held bytes is = ap (λ xs. take 4096 (front_of xs)) is

-- of a line that is longer than can be held, so much is held
pub holds-long : (held bytes : List ℕ) → length held ≡ 4096 → IsFree 10 held → HoldsFront held (held ++ bytes)
holds-long held bytes long free =
    let all : front_of held ≡ held =
    ap front_of (sym (append-nil held)) ∙ front-append held [] free ∙ append-nil held in
    ap (λ xs. take 4096 xs) all
    ∙ sym (ap (λ xs. take 4096 xs) (front-append held bytes free) ∙ take-append-le 4096 held (front_of bytes) (omega (arith, long)))

-- a line behind another has the next number
behind-line : (text rest : List ℕ) → IsFree 10 text → behind_front (line text ++ rest) ≡ rest
behind-line text rest free =
    let one : line text ++ rest ≡ text ++ 10 ∷ rest = append_assoc text (10 ∷ []) rest in
    let at : feed_at (text ++ 10 ∷ rest) + 1 ≡ length text + 1 =
    ap (λ n. n + 1) (position_or_len-free 10 text (10 ∷ rest) free) ∙ omega arith in
    ap behind_front one ∙ ap (λ n. drop n (text ++ 10 ∷ rest)) at ∙ drop-append-add text (10 ∷ rest) 1

module _ {F H E : Type 0} (grammar : Grammar F H E) (naming : IsNaming grammar) where
  at-items : (format : F) (items : List E) (rest : List ℕ) → AllByRecursion (grammar.FitsItem format) items
      → line_at (length items + 1) (items_text grammar items ++ rest) ≡ front_of rest
  at-items format [] rest fit = refl
  at-items format (item ∷ items) rest fit =
      let text = grammar.item_text item in
      let more = items_text grammar items ++ rest in
      let next : length (item ∷ items) + 1 ≡ suc (suc (length items)) = omega arith in
      let last : length items + 1 ≡ suc (length items) = omega arith in
      let one : items_text grammar (item ∷ items) ++ rest ≡ line text ++ more = append_assoc (line text) (items_text grammar items) rest in
      ap (λ n. line_at n (items_text grammar (item ∷ items) ++ rest)) next
      ∙ ap (λ xs. line_at (suc (length items)) (behind_front xs)) one
      ∙ ap (line_at (suc (length items))) (behind-line text more (naming.free_item format item fit.0))
      ∙ ap (λ n. line_at n more) (sym last) ∙ at-items format items rest fit.1

  -- the line behind a header's and items' lines
  pub line-behind : (header : H) (items : List E) (rest : List ℕ) → AllFit grammar header items
      → line_at (length items + 2) (lines_text grammar header items ++ rest) ≡ front_of rest
  line-behind header items rest fit =
      let text = grammar.header_text header in
      let more = items_text grammar items ++ rest in
      let next : length items + 2 ≡ suc (suc (length items)) = omega arith in
      let last : length items + 1 ≡ suc (length items) = omega arith in
      ap (λ n. line_at n (lines_text grammar header items ++ rest)) next
      ∙ ap (λ xs. line_at (suc (length items)) (behind_front xs)) (append_assoc (line text) (items_text grammar items) rest)
      ∙ ap (line_at (suc (length items))) (behind-line text more (naming.free_header header fit.header_fits))
      ∙ ap (λ n. line_at n more) (sym last)
      ∙ at-items (grammar.format_of header) items rest (recursion_from_All (grammar.FitsItem (grammar.format_of header)) items fit.items_fit)
