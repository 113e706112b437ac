-- What a reader of lines has read, and what each of its calls gives.
use Rattle.std.specs.Prelude.{◌≡◌, ℕ, ◌≤◌, Option, Some, None, Result, Ok, Err, List, [], ◌∷◌, ◌++◌, length}
use Rattle.tmw_lines.specs.Grammar.{Grammar, lines_text, AreLines}
use Rattle.tmw_lines.specs.LineBuffer.{bytes_of}
use Rattle.tmw_lines.specs.NextLine.{HasLineFault}
use Rattle.tmw_lines.specs.LineFeeds.{HoldsFront}
use Rattle.tmw_lines.specs.TextFault.{HasTextFault}
use Rattle.tmw_lines.specs.declared.lines.Lines.{Lines}
use Rattle.tmw_lines.specs.declared.lines.ReaderState.{ReaderState}
use Rattle.tmw_lines.specs.declared.lines.ReaderState.TheVariants.{New, Reading, Over, Failed}
use Rattle.tmw_lines.specs.declared.text_fault.TextFault.{TextFault}
use Rattle.tmw_streams.specs.Streams.{FromSource}
use Rattle.tmw_streams.specs.Transfers.{Tells}

-- how far it has come
abbrev pub state_of : {F : Type 0} → Lines F → ReaderState
state_of lines = lines.state

-- the format by which it reads its items
abbrev pub format_by : {F : Type 0} → Lines F → F
format_by lines = lines.format

-- how many items it has given
abbrev pub items_given : {F : Type 0} → Lines F → ℕ
items_given lines = lines.count

-- the bytes that it has read and not used
abbrev pub unread_bytes : {F : Type 0} → Lines F → List ℕ
unread_bytes lines = bytes_of lines.held

-- it has read nothing
pub record IsNew {F : Type 0} (lines : Lines F) : Type 0 where
  pub state : state_of lines ≡ New
  pub none : items_given lines ≡ 0
  pub nothing : unread_bytes lines ≡ []

-- it has given its header, and answered no fault and not the end
abbrev pub IsReading : {F : Type 0} → Lines F → Type 0
IsReading lines = state_of lines ≡ Reading

-- it has answered that the text has ended, or, before the header, that there is no item
abbrev pub IsOver : {F : Type 0} → Lines F → Type 0
IsOver lines = state_of lines ≡ Over

-- it has answered this fault
abbrev pub HasFailed : {F : Type 0} → Lines F → TextFault → Type 0
HasFailed lines fault = state_of lines ≡ Failed fault

-- how many bytes it has read and not used
abbrev pub unread : {F : Type 0} → Lines F → ℕ
unread lines = length (unread_bytes lines)

-- it has given its header, and answered no fault and not the end, and the bytes read are the header's line, the lines of the
-- items given, and at most 4,096 bytes that it holds
pub record HasRead {F H E : Type 0} (grammar : Grammar F H E) (lines : Lines F) (header : H) (items : List E)
    (bytes : List ℕ) : Type 0 where
  pub reading : IsReading lines
  pub format : format_by lines ≡ grammar.format_of header
  pub counted : items_given lines ≡ length items
  pub are_lines : AreLines grammar header items
  pub text : bytes ≡ lines_text grammar header items ++ unread_bytes lines
  pub few : unread lines ≤ 4096

-- whatever it had read before, it now has given this item more, and read these bytes more
abbrev pub GivesItem : {F H E : Type 0} → Grammar F H E → Lines F → Lines F → List ℕ → E → Type 0
GivesItem grammar old new bytes item = (header : _) (items : List _) (before : List ℕ)
    → HasRead grammar old header items before → HasRead grammar new header (items ++ item ∷ []) (before ++ bytes)

-- whatever it had read before, the bytes up to the end are the text of the header and the items given
abbrev pub GivesEnd : {F H E : Type 0} → Grammar F H E → Type 0 → Lines F → List ℕ → Type 0
GivesEnd grammar Ended old bytes = (header : _) (items : List _) (before : List ℕ)
    → HasRead grammar old header items before → Ended × (before ++ bytes ≡ lines_text grammar header items)

-- where it had given its header, and answered no fault and not the end, the line behind those given has this fault, whatever is behind that line
-- and it holds how that line begins
abbrev pub FailsAtLine : {F H E : Type 0} → Grammar F H E → Type 0 → Lines F → Lines F → List ℕ → TextFault → Type 0
FailsAtLine grammar Ended old new bytes fault =
    IsReading old → HasLineFault grammar Ended (format_by old) (items_given old) (unread_bytes old ++ bytes) fault
    × HoldsFront (unread_bytes new) (unread_bytes old ++ bytes) × (format_by new ≡ format_by old)

-- whatever it had read before, all bytes told have this fault
abbrev pub GivesFault : {F H E : Type 0} → Grammar F H E → Type 0 → Lines F → List ℕ → TextFault → Type 0
GivesFault grammar Ended old bytes fault = (header : _) (items : List _) (before : List ℕ)
    → HasRead grammar old header items before → HasTextFault grammar Ended (before ++ bytes) fault

-- what a call of `next` that was told these bytes has answered: an item, the end, or a fault, which the reader keeps
abbrev pub IsNextRead : {F H E : Type 0} → Grammar F H E → Type 0 → Lines F → Lines F → List ℕ → Result (Option E) TextFault → Type 0
IsNextRead grammar Ended old new bytes (Ok (Some item)) = GivesItem grammar old new bytes item
IsNextRead grammar Ended old new bytes (Ok None) = GivesEnd grammar Ended old bytes × IsOver new
IsNextRead grammar Ended old new bytes (Err fault) =
    FailsAtLine grammar Ended old new bytes fault × GivesFault grammar Ended old bytes fault × HasFailed new fault

-- a call of `next`, in which the source goes from `a` to `b` and the reader from `old` to `new`, has answered this
pub record ReadsNext {F H E S : Type 0} (grammar : Grammar F H E) (From : FromSource S) (a b : S) (old new : Lines F)
    (result : Result (Option E) TextFault) : Type 0 where
  -- the source told these bytes
  pub bytes : List ℕ
  pub told : Tells From a bytes b
  -- the reader has answered by them
  pub is : IsNextRead grammar (From.ended b) old new bytes result
