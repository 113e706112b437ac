-- What a taker is given of the lines that bytes begin with, one line after another.
use Rattle.std.specs.Prelude.{◌≡◌, ℕ, ◌+◌, ◌≤◌, ◌^◌, Bool, true, false, List, [], ◌∷◌, ◌++◌, length}
use Rattle.tmw_lines.specs.GiveResult.{AreFirst}
use Rattle.tmw_lines.specs.Grammar.{Grammar}
use Rattle.tmw_lines.specs.Taker.{Taking, TakesUpTo}
use Rattle.tmw_lines.specs.declared.give_lines.LineRun.{LineRun}

-- the bytes begin with the lines of items that were taken, and so many items' lines were read with those before them
pub record AreTaken {F H E T : Type 0} (grammar : Grammar F H E) (taking : Taking T E) (format : F) (bytes : List ℕ)
    (read : ℕ) (before after : T) (count all : ℕ) : Type 0 where
  pub items : List E
  pub first : AreFirst grammar format items count bytes
  pub counted : all ≡ read + length items
  pub few : all ≤ 2 ^ 40
  pub taken : taking.takes before items after
  pub counts : taking.counts after all

-- and the taker stopped at the last
pub record AreTakenUpTo {F H E T : Type 0} (grammar : Grammar F H E) (taking : Taking T E) (format : F) (bytes : List ℕ)
    (read : ℕ) (before after : T) (count all : ℕ) : Type 0 where
  pub items : List E
  pub last : E
  pub first : AreFirst grammar format (items ++ last ∷ []) count bytes
  pub counted : all ≡ read + (length items + 1)
  pub few : all ≤ 2 ^ 40
  pub taken : TakesUpTo taking before items last after

abbrev pub IsRunBy : {F H E T : Type 0} → Grammar F H E → Taking T E → F → List ℕ → ℕ → T → T → ℕ → ℕ → Bool → Type 0
IsRunBy grammar taking format bytes read before after count all false =
    AreTaken grammar taking format bytes read before after count all
IsRunBy grammar taking format bytes read before after count all true =
    AreTakenUpTo grammar taking format bytes read before after count all

-- what was given of the bytes
abbrev pub IsRun : {F H E T : Type 0} → Grammar F H E → Taking T E → F → List ℕ → ℕ → T → T → LineRun → Type 0
IsRun grammar taking format bytes read before after run =
    IsRunBy grammar taking format bytes read before after run.length run.count run.stopped
