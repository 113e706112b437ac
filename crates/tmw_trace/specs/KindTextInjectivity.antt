-- A text names its kind: two kinds with one text are one kind, and no kind's text has a line feed.
use Rattle.tmw_trace.specs.Shared.{A, C, FitsKind, IsFree, K, Kind, N, R, T, V, W, X, and_from, ap, arith, decimal_injective, false, free-decimal, get_or, kind_text, not, refl, same_ix}
use Rattle.std.proofs.Common.{◌==◌, ◌∙◌}
use Rattle.std.specs.Prelude.{drop, true, ℕ, ◌+◌, ◌≡◌}
use Rattle.std.proofs.lemmas.Bool.Decides.{nat_tests}

pub kind_text-injective : (k m : Kind) → FitsKind k → FitsKind m → kind_text k ≡ kind_text m → k ≡ m
kind_text-injective (R r) (R s) f g is = ap R (same_ix r s (omega (arith, ap (λ xs. get_or xs 2 0) is)))
kind_text-injective (V v) (V w) f g is = ap V (decimal_injective v w f g (ap (λ xs. drop 2 xs) is))
kind_text-injective (W r v) (W s w) f g is =
    ap (λ x. W x v) (same_ix r s (omega (arith, ap (λ xs. get_or xs 2 0) is))) ∙ ap (λ x. W s x) (decimal_injective v w f g (ap (λ xs. drop 4 xs) is))
kind_text-injective K K f g is = refl
kind_text-injective T T f g is = refl
kind_text-injective C C f g is = refl
kind_text-injective X X f g is = refl
kind_text-injective A A f g is = refl
kind_text-injective (N r v) (N s w) f g is =
    ap (λ x. N x v) (same_ix r s (omega (arith, ap (λ xs. get_or xs 2 0) is))) ∙ ap (λ x. N s x) (decimal_injective v w f g (ap (λ xs. drop 4 xs) is))
kind_text-injective _ _ f g is = absurd (omega (arith, ap (λ xs. get_or xs 0 0) is))

-- a digit is no line feed
pub no_feed : (n : ℕ) → not (48 + n == 10) ≡ true
no_feed n = let other : (48 + n == 10) ≡ false = grind (arith, nat_tests) in rw other refl

pub free-kind_text : (k : Kind) → FitsKind k → IsFree 10 (kind_text k)
free-kind_text (R r) f = and_from _ true (no_feed r.number) refl
free-kind_text (V v) f = free-decimal 10 v (omega arith) f
free-kind_text (W r v) f = and_from _ _ (no_feed r.number) (free-decimal 10 v (omega arith) f)
free-kind_text (N r v) f = and_from _ _ (no_feed r.number) (free-decimal 10 v (omega arith) f)
free-kind_text K f = refl
free-kind_text T f = refl
free-kind_text C f = refl
free-kind_text X f = refl
free-kind_text A f = refl
