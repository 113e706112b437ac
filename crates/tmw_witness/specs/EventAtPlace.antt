-- One transaction of a window gets an event more.
use Rattle.std.specs.Prelude.{◌≡◌, ℕ, List, length, slice_get, Some}
use Rattle.std.specs.Int.{bit_at}
use Rattle.tmw_cuts.specs.Views.{View}

-- None of them began after the transaction at the place had completed.
abbrev pub PrecedesNone : List View → ℕ → Type 0
PrecedesNone xs p = (i : ℕ) (x : View) → slice_get xs i ≡ Some x → bit_at x.before p ≡ 1 → ⊥

-- The one list is the other but for the transaction at the place, which has an event of this kind more. It had not completed before,
-- so it precedes none.
pub record TurnsAt (xs ys : List View) (p : ℕ) (x y : View) : Type 0 where
  pub same_length : length ys ≡ length xs
  pub was : slice_get xs p ≡ Some x
  pub here : slice_get ys p ≡ Some y
  pub before : y.before ≡ x.before
  pub others : (i : ℕ) → (i ≡ p → ⊥) → slice_get ys i ≡ slice_get xs i
  pub alone : PrecedesNone ys p
