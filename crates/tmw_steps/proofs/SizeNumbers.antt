-- The three numbers of a size, one after the other, and when a text is the text of no size.
use Rattle.tmw_steps.proofs.Shared.{FitsSize, List, SizeLine, [], ap, arith, drop, drop_all, length, length-drop, rules, size_numbers, ℕ, ◌∷◌, ◌≡◌, ◌≢◌}
use Rattle.tmw_trace.specs.Text.{values_text}
use Rattle.tmw_trace.specs.FirstValue.{IsFirstValue, IsNoFirstValue}
use Rattle.tmw_trace.specs.ValueTextInjectivity.{next-values}
use Rattle.tmw_trace.proofs.ValueParts.{value-split, value-rest}

pub numbers-some : (bytes : List ℕ) (a b c n m k : ℕ) → IsFirstValue a n bytes → IsFirstValue b m (drop n bytes)
    → IsFirstValue c k (drop m (drop n bytes)) → k ≡ length (drop m (drop n bytes))
    → bytes ≡ values_text (a ∷ b ∷ c ∷ [])
numbers-some bytes a b c n m k first second third all = grind (arith, drop_all, value-split)

after_cells : (bytes : List ℕ) (a n : ℕ) → IsFirstValue a n bytes → (size : SizeLine) → FitsSize size
    → bytes ≡ values_text (size_numbers size) → drop n bytes ≡ values_text (size.writers ∷ size.limit ∷ [])
after_cells bytes a n first size fits is = search (rules, value-rest)

pub no_writers : (bytes : List ℕ) (a n : ℕ) → IsFirstValue a n bytes → IsNoFirstValue (drop n bytes)
    → (size : SizeLine) → FitsSize size → bytes ≡ values_text (size_numbers size) → ⊥
no_writers bytes a n first none size fits is = grind (arith, after_cells)

after_writers : (bytes : List ℕ) (a b n m : ℕ) → IsFirstValue a n bytes → IsFirstValue b m (drop n bytes)
    → (size : SizeLine) → FitsSize size → bytes ≡ values_text (size_numbers size)
    → drop m (drop n bytes) ≡ values_text (size.limit ∷ [])
after_writers bytes a b n m first second size fits is = search (rules, value-rest, after_cells)

pub no_limit : (bytes : List ℕ) (a b n m : ℕ) → IsFirstValue a n bytes → IsFirstValue b m (drop n bytes)
    → IsNoFirstValue (drop m (drop n bytes)) → (size : SizeLine) → FitsSize size
    → bytes ≡ values_text (size_numbers size) → ⊥
no_limit bytes a b n m first second none size fits is = grind (arith, after_writers)

pub no_more : (bytes : List ℕ) (a b c n m k : ℕ) → IsFirstValue a n bytes → IsFirstValue b m (drop n bytes)
    → IsFirstValue c k (drop m (drop n bytes)) → k ≢ length (drop m (drop n bytes)) → (size : SizeLine) → FitsSize size
    → bytes ≡ values_text (size_numbers size) → ⊥
no_more bytes a b c n m k first second third more size fits is =
    let last = value-rest c k (drop m (drop n bytes)) size.limit (values_text []) third fits.limit (next-values [])
    (after_writers bytes a b n m first second size fits is) in
    more (omega (arith, ap length last, length-drop k (drop m (drop n bytes)), third.within))
