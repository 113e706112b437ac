-- What a taker is given of the lines that bytes begin with.
use Rattle.std.specs.Prelude.{◌≡◌, ℕ, ◌+◌, ◌≤◌, List, [], ◌∷◌, ◌++◌, length, drop, All}
use Rattle.tmw_lines.specs.Grammar.{Grammar, items_text}
use Rattle.tmw_lines.specs.NextLine.{IsItemLine}
use Rattle.tmw_lines.specs.Lines.{HasRead}
use Rattle.tmw_lines.specs.Taker.{Taking, TakesUpTo}
use Rattle.tmw_lines.specs.declared.give_result.GiveResult.{GiveResult}
use Rattle.tmw_lines.specs.declared.give_result.GiveResult.TheVariants.{Nothing, Taken, Stopped}
use Rattle.tmw_lines.specs.declared.lines.Lines.{Lines}

-- what came of the line that the bytes begin with: nothing was given, or its item was taken, or the taker stopped at it
abbrev pub IsGiven : {F H E T : Type 0} → Grammar F H E → Taking T E → F → List ℕ → T → T → GiveResult → Type 0
IsGiven grammar taking format bytes before after Nothing = after ≡ before
IsGiven grammar taking format bytes before after (Taken count) =
    (count ≤ length bytes) × (item : _) × IsItemLine grammar format item bytes (drop count bytes) × taking.takes before (item ∷ []) after
    × ((taken : ℕ) → taking.counts before taken → taking.counts after (taken + 1))
IsGiven grammar taking format bytes before after (Stopped count) =
    (count ≤ length bytes) × (item : _) × IsItemLine grammar format item bytes (drop count bytes) × taking.stops before item after

-- the bytes begin with the lines of these items, which are so many bytes
pub record AreFirst {F H E : Type 0} (grammar : Grammar F H E) (format : F) (items : List E) (count : ℕ) (bytes : List ℕ)
    : Type 0 where
  pub within : count ≤ length bytes
  pub split : bytes ≡ items_text grammar items ++ drop count bytes
  pub fit : All (grammar.FitsItem format) items

-- the reader has read these lines more of what it held
abbrev pub ReadsHeld : {F H E : Type 0} → Grammar F H E → Lines F → Lines F → List E → Type 0
ReadsHeld grammar old new items = (header : _) (given : List _) (before : List ℕ) → HasRead grammar old header given before
    → HasRead grammar new header (given ++ items) before

-- the items of the lines that were read were taken
pub record GivesItems {F H E T : Type 0} (grammar : Grammar F H E) (taking : Taking T E) (old new : Lines F)
    (before after : T) : Type 0 where
  pub items : List E
  pub read : ReadsHeld grammar old new items
  pub taken : taking.takes before items after

-- the items of the lines that were read were taken, up to the last, at which the taker stopped
pub record GivesUpTo {F H E T : Type 0} (grammar : Grammar F H E) (taking : Taking T E) (old new : Lines F)
    (before after : T) : Type 0 where
  pub items : List E
  pub last : E
  pub read : ReadsHeld grammar old new (items ++ last ∷ [])
  pub taken : TakesUpTo taking before items last after
