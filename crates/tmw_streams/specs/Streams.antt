-- What contracts say of sources and sinks, in one record a side.
use Rattle.std.specs.Prelude.{ℕ, Option, List}

-- Of sources of a type: the bytes that they may have told, those that they have still to tell where they are known, that they
-- have answered their end, a number no smaller than the bytes still to come, and how many reads failed.
pub record FromSource (S : Type 0) : Type 1 where
  pub told : S → List ℕ → Type 0
  pub remaining : S → Option (List ℕ)
  pub ended : S → Type 0
  pub left : S → ℕ
  pub failures : S → ℕ

-- Of sinks of a type: the bytes that they may have taken, all that they hold where they are known, and how many writes failed.
pub record ToSink (K : Type 0) : Type 1 where
  pub took : K → List ℕ → Type 0
  pub holds : K → Option (List ℕ)
  pub failures : K → ℕ
