-- A text names its values: two lists of values with one text are one list, and no such text has a line feed.
use Rattle.tmw_trace.specs.Shared.{AllByRecursion, IsFree, [], ap, arith, decimal, decimal_injective, free-append, free-decimal, is_next, refl, split_free}
use Rattle.std.proofs.Common.{◌∙◌}
use Rattle.std.specs.Prelude.{List, drop, length, true, ℕ, ◌<◌, ◌^◌, ◌∷◌, ◌≡◌}
use Rattle.tmw_trace.specs.Text.{values_text}

-- behind a value comes a space or nothing
pub next-values : (values : List ℕ) → is_next 32 (values_text values) ≡ true
next-values [] = refl
next-values (value ∷ values) = refl

pub free-values_text : (values : List ℕ) → AllByRecursion (λ value. value < 2 ^ 64) values → IsFree 10 (values_text values)
free-values_text [] f = refl
free-values_text (v ∷ vs) f =
    free-append 10 (decimal v) (values_text vs) (free-decimal 10 v (omega arith) f.0) (free-values_text vs f.1)

pub values_text-injective : (xs ys : List ℕ) → AllByRecursion (λ x. x < 2 ^ 64) xs → AllByRecursion (λ y. y < 2 ^ 64) ys
    → values_text xs ≡ values_text ys → xs ≡ ys
values_text-injective [] [] a b is = refl
values_text-injective [] (y ∷ ys) a b is = absurd (omega (arith, ap length is))
values_text-injective (x ∷ xs) [] a b is = absurd (omega (arith, ap length is))
values_text-injective (x ∷ xs) (y ∷ ys) a b is =
    let parts = split_free 32 (decimal x) (decimal y) (values_text xs) (values_text ys) (free-decimal 32 x (omega arith) a.0)
    (free-decimal 32 y (omega arith) b.0) (next-values xs) (next-values ys) (ap (λ zs. drop 1 zs) is) in
    ap (λ z. z ∷ xs) (decimal_injective x y a.0 b.0 parts.0)
    ∙ ap (λ zs. y ∷ zs) (values_text-injective xs ys a.1 b.1 parts.1)
