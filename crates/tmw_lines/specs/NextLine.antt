-- What one line of a text gives: a header, an item, the end, or a fault.
use Rattle.std.specs.Prelude.{◌≡◌, ◌≢◌, ℕ, ◌+◌, ◌<◌, ◌^◌, Option, Some, None, Result, Ok, Err, List, [], ◌++◌}
use Rattle.tmw_lines.specs.Grammar.{Grammar}
use Rattle.tmw_lines.specs.LineFeeds.{line, HoldsFront}
use Rattle.tmw_lines.specs.TextFault.{IsUnbroken, IsBadLine, HasFirstLineFault}
use Rattle.tmw_lines.specs.declared.text_fault.TextFault.{TextFault}
use Rattle.tmw_lines.specs.declared.text_fault.TextFault.TheVariants.{BadHeader, BadLine, Cut, Memory, Io, TooLong}
use Rattle.tmw_streams.specs.Streams.{FromSource}
use Rattle.tmw_streams.specs.Transfers.{Tells}

-- the bytes begin with this item's line, and these are left
pub record IsItemLine {F H E : Type 0} (grammar : Grammar F H E) (format : F) (item : E) (bytes left : List ℕ) : Type 0 where
  pub split : bytes ≡ line (grammar.item_text item) ++ left
  pub fits : grammar.FitsItem format item

-- the bytes that follow so many items' lines have this fault; `Ended` says that the source has
abbrev pub HasLineFault : {F H E : Type 0} → Grammar F H E → Type 0 → F → ℕ → List ℕ → TextFault → Type 0
HasLineFault grammar Ended format count bytes (BadLine number) =
    (count < 2 ^ 40) × (number ≡ count + 2) × IsBadLine grammar format bytes
HasLineFault grammar Ended format count bytes (Cut number) =
    (count < 2 ^ 40) × (number ≡ count + 2) × Ended × IsUnbroken bytes × (bytes ≢ [])
HasLineFault grammar Ended format count bytes TooLong = (count ≡ 2 ^ 40) × (bytes ≢ [])
HasLineFault grammar Ended format count bytes Io = (Ended → ⊥) × IsUnbroken bytes × (count ≡ 2 ^ 40 → bytes ≡ [])
HasLineFault grammar Ended format count bytes BadHeader = ⊥
HasLineFault grammar Ended format count bytes Memory = ⊥

-- what was read of the bytes that follow so many items' lines: an item's line and what is left, nothing at the end, or
-- a fault
abbrev pub IsLineRead : {F H E : Type 0} → Grammar F H E → Type 0 → F → ℕ → List ℕ → List ℕ
    → Result (Option E) TextFault → Type 0
IsLineRead grammar Ended format count bytes left (Ok (Some item)) =
    (count < 2 ^ 40) × IsItemLine grammar format item bytes left
IsLineRead grammar Ended format count bytes left (Ok None) = Ended × (bytes ≡ [])
IsLineRead grammar Ended format count bytes left (Err fault) =
    HasLineFault grammar Ended format count bytes fault × HoldsFront left bytes

-- what the source told makes, behind the bytes held before, a line that was read
pub record ReadsLine {F H E S : Type 0} (grammar : Grammar F H E) (From : FromSource S) (Ended : Type 0) (old new : S) (format : F) (count : ℕ) (before left : List ℕ)
    (result : Result (Option E) TextFault) : Type 0 where
  pub bytes : List ℕ
  pub told : Tells From old bytes new
  pub is : IsLineRead grammar Ended format count (before ++ bytes) left result

-- what was read of the first bytes: a header's line and what is left, or a fault
abbrev pub IsHeaderRead : {F H E : Type 0} → Grammar F H E → Type 0 → List ℕ → List ℕ → Result H TextFault → Type 0
IsHeaderRead grammar Ended bytes left (Ok header) =
    (bytes ≡ line (grammar.header_text header) ++ left) × grammar.FitsHeader header
IsHeaderRead grammar Ended bytes left (Err fault) = HasFirstLineFault grammar Ended bytes fault × HoldsFront left bytes

-- what the source told makes, behind the bytes held before, a header's line that was read
pub record ReadsHeader {F H E S : Type 0} (grammar : Grammar F H E) (From : FromSource S) (Ended : Type 0) (old new : S) (before left : List ℕ)
    (result : Result H TextFault) : Type 0 where
  pub bytes : List ℕ
  pub told : Tells From old bytes new
  pub is : IsHeaderRead grammar Ended (before ++ bytes) left result
