-- What is read where lines are read on to the text's end, and how much of it is held.
use Rattle.std.specs.Prelude.{◌≡◌, ◌⊎◌, ℕ, Result, Ok, Err, List, [], ◌∷◌, ◌++◌, length}
use Rattle.tmw_lines.specs.Grammar.{Grammar, lines_text, AreLines}
use Rattle.tmw_lines.specs.NextLine.{HasLineFault}
use Rattle.tmw_lines.specs.Lines.{HasRead, format_by, unread_bytes}
use Rattle.tmw_lines.specs.LineFeeds.{HoldsFront}
use Rattle.tmw_lines.specs.declared.lines.Lines.{Lines}
use Rattle.tmw_lines.specs.declared.text_fault.TextFault.{TextFault}
use Rattle.tmw_lines.specs.declared.text_fault.TextFault.TheVariants.{Memory}
use Rattle.tmw_streams.specs.Streams.{FromSource}
use Rattle.tmw_streams.specs.Transfers.{Tells}

-- it has given a header and perhaps items, and answered no fault and not the end
pub record HasBegunToRead {F H E : Type 0} (grammar : Grammar F H E) (lines : Lines F) : Type 0 where
  pub header : H
  pub items : List E
  pub bytes : List ℕ
  pub read : HasRead grammar lines header items bytes

-- the bytes, which end here where `Ended` holds, are the text of a header and these items
pub record EndsBehind {F H E : Type 0} (grammar : Grammar F H E) (Ended : Type 0) (header : H) (items : List E)
    (bytes : List ℕ) : Type 0 where
  pub ended : Ended
  pub are_lines : AreLines grammar header items
  pub text : bytes ≡ lines_text grammar header items

-- the bytes, which end here where `Ended` holds, are the text of a header and these items, and behind it the line that has the fault
pub record FailsBehind {F H E : Type 0} (grammar : Grammar F H E) (Ended : Type 0) (header : H) (items : List E)
    (bytes : List ℕ) (fault : TextFault) : Type 0 where
  pub are_lines : AreLines grammar header items
  pub rest : List ℕ
  pub text : bytes ≡ lines_text grammar header items ++ rest
  pub line : HasLineFault grammar Ended (grammar.format_of header) (length items) rest fault

-- and the reader holds how that line begins
pub record FailsHolding {F H E : Type 0} (grammar : Grammar F H E) (Ended : Type 0) (lines : Lines F) (header : H)
    (items : List E) (bytes : List ℕ) (fault : TextFault) : Type 0 where
  pub fails : FailsBehind grammar Ended header items bytes fault
  pub holds : HoldsFront (unread_bytes lines) fails.rest
  pub format : format_by lines ≡ grammar.format_of header

-- the reader has read the lines of a header and these items, and of one item more; of what follows it holds all that was read,
-- at most 4,096 bytes
pub record StopsBehind {F H E : Type 0} (grammar : Grammar F H E) (lines : Lines F) (header : H) (items : List E)
    (bytes : List ℕ) : Type 0 where
  pub last : E
  pub read : HasRead grammar lines header (items ++ last ∷ []) bytes

-- these are the bytes read where these items are held: their text, and behind it nothing up to the end, the line that has the
-- fault, or for want of memory one line, whose item is not held, and what the reader holds
abbrev pub AreReadFor : {F H E Done : Type 0} → Grammar F H E → Type 0 → Lines F → H → List E → List ℕ → Result Done TextFault → Type 0
AreReadFor grammar Ended lines header items bytes (Ok done) = EndsBehind grammar Ended header items bytes
AreReadFor grammar Ended lines header items bytes (Err fault) =
    FailsHolding grammar Ended lines header items bytes fault ⊎ ((fault ≡ Memory) × StopsBehind grammar lines header items bytes)

-- what the source told makes, behind whatever the reader had read before, lines whose items came behind the items held
pub record ReadsItems {F H E S Done : Type 0} (grammar : Grammar F H E) (From : FromSource S) (Ended : Type 0) (old new : S) (lines lines_after : Lines F) (held held_after : List E)
    (result : Result Done TextFault) : Type 0 where
  pub bytes : List ℕ
  pub items : List E
  pub told : Tells From old bytes new
  pub is : held_after ≡ held ++ items
  pub read : (header : H) (given : List E) (before : List ℕ) → HasRead grammar lines header given before
      → AreReadFor grammar Ended lines_after header (given ++ items) (before ++ bytes) result
