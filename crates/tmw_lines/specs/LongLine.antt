-- The rest of a line that is longer than can be held.
use Rattle.std.specs.Prelude.{◌≡◌, ℕ, List, ◌∷◌, ◌++◌}
use Rattle.tmw_lines.specs.FreeParts.{IsFree}
use Rattle.tmw_streams.specs.Streams.{FromSource}
use Rattle.tmw_streams.specs.Transfers.{Tells, one_more}
use Rattle.tmw_lines.specs.declared.long_line.LineEnd.{LineEnd}
use Rattle.tmw_lines.specs.declared.long_line.LineEnd.TheVariants.{Feed, End, Failed}

-- bytes with a line feed and no other before it
pub record HasFeed (bytes : List ℕ) : Type 0 where
  pub front : List ℕ
  pub rest : List ℕ
  pub split : bytes ≡ front ++ 10 ∷ rest
  pub free : IsFree 10 front

-- the bytes of the line's rest, and perhaps some after it; `Ended` says that the source has
abbrev pub IsLineRest : LineEnd → Type 0 → List ℕ → Type 0
IsLineRest Feed Ended bytes = HasFeed bytes
IsLineRest End Ended bytes = Ended × IsFree 10 bytes
IsLineRest Failed Ended bytes = (Ended → ⊥) × IsFree 10 bytes

-- what the source told is the line's rest
pub record Skips {S : Type 0} (From : FromSource S) (Ended : Type 0) (old new : S) (end : LineEnd) : Type 0 where
  pub bytes : List ℕ
  pub told : Tells From old bytes new
  pub is : IsLineRest end Ended bytes

-- a source's count of failures after this end
abbrev pub line_end_failures : LineEnd → ℕ → ℕ
line_end_failures Failed count = one_more count
line_end_failures _ count = count
