-- Which fault a text of lines has. Lines are judged in order, and the first fault counts.
use Rattle.std.specs.Prelude.{◌≡◌, ◌≢◌, ℕ, ◌+◌, ◌<◌, ◌≤◌, ◌^◌, ◌⊎◌, Result, Ok, Err, List, [], ◌++◌, length}
use Rattle.tmw_lines.specs.Grammar.{Grammar, lines_text, AreLines, IsNoHeader, IsNoItem}
use Rattle.tmw_lines.specs.FreeParts.{IsFree}
use Rattle.tmw_lines.specs.LineFeeds.{line}
use Rattle.tmw_lines.specs.declared.text_fault.TextFault.{TextFault}
use Rattle.tmw_lines.specs.declared.text_fault.TextFault.TheVariants.{BadHeader, BadLine, Cut, Memory, Io, TooLong}
use Rattle.tmw_streams.specs.Transfers.{one_more}

-- no line feed is among these bytes
abbrev pub IsUnbroken : List ℕ → Type 0
IsUnbroken bytes = IsFree 10 bytes

-- the bytes begin with a whole line whose text is bad
pub record BeginsWithBad (IsBad : List ℕ → Type 0) (bytes : List ℕ) : Type 0 where
  pub text : List ℕ
  pub rest : List ℕ
  pub split : bytes ≡ line text ++ rest
  pub unbroken : IsUnbroken text
  pub bad : IsBad text

-- the bytes begin with a whole line that is no header
abbrev pub HasBadHeader : {F H E : Type 0} → Grammar F H E → List ℕ → Type 0
HasBadHeader grammar bytes = BeginsWithBad (IsNoHeader grammar) bytes

-- the bytes begin with a whole line that is no item of the format
abbrev pub IsBadLine : {F H E : Type 0} → Grammar F H E → F → List ℕ → Type 0
IsBadLine grammar format bytes = BeginsWithBad (IsNoItem grammar format) bytes

-- a header and items' lines, and then whatever follows
pub record HasBegun {F H E : Type 0} (grammar : Grammar F H E) (bytes : List ℕ) : Type 0 where
  pub header : H
  pub items : List E
  pub are_lines : AreLines grammar header items
  pub rest : List ℕ
  pub split : bytes ≡ lines_text grammar header items ++ rest

-- after a header and fewer than 2^40 items' lines comes a whole line that is no item; lines are counted from 1
pub record HasBadLine {F H E : Type 0} (grammar : Grammar F H E) (bytes : List ℕ) (number : ℕ) : Type 0 where
  pub begun : HasBegun grammar bytes
  pub few : length begun.items < 2 ^ 40
  pub bad : IsBadLine grammar (grammar.format_of begun.header) begun.rest
  pub counted : number ≡ length begun.items + 2

-- after a header and fewer than 2^40 items' lines come bytes, at least one, and no line feed
pub record EndsInPiece {F H E : Type 0} (grammar : Grammar F H E) (bytes : List ℕ) (number : ℕ) : Type 0 where
  pub begun : HasBegun grammar bytes
  pub few : length begun.items < 2 ^ 40
  pub unbroken : IsUnbroken begun.rest
  pub some : begun.rest ≢ []
  pub counted : number ≡ length begun.items + 2

-- after a header and 2^40 items' lines comes one more byte
pub record IsTooLong {F H E : Type 0} (grammar : Grammar F H E) (bytes : List ℕ) : Type 0 where
  pub begun : HasBegun grammar bytes
  pub many : length begun.items ≡ 2 ^ 40
  pub some : begun.rest ≢ []

-- a header and items' lines, and then less than a line, which is nothing after 2^40 of them
pub record EndsInOrder {F H E : Type 0} (grammar : Grammar F H E) (bytes : List ℕ) : Type 0 where
  pub begun : HasBegun grammar bytes
  pub unbroken : IsUnbroken begun.rest
  pub none : length begun.items ≡ 2 ^ 40 → begun.rest ≡ []

-- a header and items' lines, and then at most 4,096 bytes
pub record EndsSoon {F H E : Type 0} (grammar : Grammar F H E) (bytes : List ℕ) : Type 0 where
  pub begun : HasBegun grammar bytes
  pub soon : length begun.rest ≤ 4096

-- the last piece, which has this number, lacks its line feed
abbrev pub IsCut : {F H E : Type 0} → Grammar F H E → List ℕ → ℕ → Type 0
IsCut grammar bytes number = ((number ≡ 1) × (bytes ≢ []) × IsUnbroken bytes) ⊎ EndsInPiece grammar bytes number

-- the bytes told so far show no fault
abbrev pub IsFaultless : {F H E : Type 0} → Grammar F H E → List ℕ → Type 0
IsFaultless grammar bytes = IsUnbroken bytes ⊎ EndsInOrder grammar bytes

-- the bytes, which end here where `Ended` holds, have this fault; where a read failed, they don't end here and what was judged
-- of them has none, and for want of memory at most 4,096 of them were read behind a header's and items' lines
abbrev pub HasTextFault : {F H E : Type 0} → Grammar F H E → Type 0 → List ℕ → TextFault → Type 0
HasTextFault grammar Ended bytes BadHeader = (Ended × (bytes ≡ [])) ⊎ HasBadHeader grammar bytes
HasTextFault grammar Ended bytes (BadLine number) = HasBadLine grammar bytes number
HasTextFault grammar Ended bytes (Cut number) = Ended × IsCut grammar bytes number
HasTextFault grammar Ended bytes Memory = EndsSoon grammar bytes
HasTextFault grammar Ended bytes Io = (Ended → ⊥) × IsFaultless grammar bytes
HasTextFault grammar Ended bytes TooLong = IsTooLong grammar bytes

-- the bytes, which end here where `Ended` holds, have this fault in their first line; where a read failed, that line isn't
-- whole; no later line is judged, and no memory is taken
abbrev pub HasFirstLineFault : {F H E : Type 0} → Grammar F H E → Type 0 → List ℕ → TextFault → Type 0
HasFirstLineFault grammar Ended bytes BadHeader = (Ended × (bytes ≡ [])) ⊎ HasBadHeader grammar bytes
HasFirstLineFault grammar Ended bytes (Cut number) = Ended × (number ≡ 1) × (bytes ≢ []) × IsUnbroken bytes
HasFirstLineFault grammar Ended bytes Io = (Ended → ⊥) × IsUnbroken bytes
HasFirstLineFault grammar Ended bytes (BadLine number) = ⊥
HasFirstLineFault grammar Ended bytes TooLong = ⊥
HasFirstLineFault grammar Ended bytes Memory = ⊥

-- a source's count of failures after this fault: one more for a failed read, else as before
abbrev pub failures_after : TextFault → ℕ → ℕ
failures_after Io count = one_more count
failures_after _ count = count

-- how many reads have failed then, after so many before, if this came of reading
abbrev pub reading_failures : {T : Type 0} → Result T TextFault → ℕ → ℕ
reading_failures (Ok found) count = count
reading_failures (Err fault) count = failures_after fault count
