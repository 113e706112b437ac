-- What the sink for errors is told of a fault that is at a line of a trace: which line, what is wrong with it, and how it begins.
use Rattle.tmw_report.specs.Shared.{ToSink, decimal, line, line_at}
use Rattle.std.specs.Prelude.{◌≡◌, ◌==◌, ◌&&◌, ◌||◌, ◌++◌, ◌+◌, ◌/◌, ◌%◌, ℕ, Bool, false, List, [], ◌∷◌, length, take, get_or, nat_le, nat_lt, Option, Some, None, Result, Ok, Err, codes, if◌then◌else◌}
use Rattle.std.specs.List.{flat_map}
use Rattle.tmw_report.specs.SendText.{IsSent}
use Rattle.tmw_report.specs.Remark.{Remarks}
use Rattle.tmw_report.specs.declared.fault.Fault.{Fault}
use Rattle.tmw_report.specs.declared.remark.Remark.{Remark}
use Rattle.tmw_report.specs.declared.fault.Fault.TheVariants.{BadHeader, BadLine, Cut}

-- a digit of base sixteen
abbrev pub hex_digit : ℕ → ℕ
hex_digit n = if nat_lt n 10 then 48 + n else 87 + n

-- `"` and `\` stand behind a `\`, any other byte of printable ASCII as it is, and each other byte as `\x` and two digits
abbrev pub escaped_byte : ℕ → List ℕ
escaped_byte byte =
    if byte == 34 || byte == 92
    then 92 ∷ byte ∷ []
    else (if nat_le 32 byte && nat_le byte 126 then byte ∷ [] else 92 ∷ 120 ∷ hex_digit (byte / 16) ∷ hex_digit (byte % 16) ∷ [])

abbrev pub escaped : List ℕ → List ℕ
escaped bytes = flat_map escaped_byte bytes

-- the end of a quoted line: three dots say that the line is longer
abbrev pub quote_end : List ℕ → List ℕ
quote_end text = if nat_lt 80 (length text) then codes "\"..." else codes "\""

-- the line's first 80 bytes
abbrev pub quoted : List ℕ → List ℕ
quoted text = codes "\"" ++ (escaped (take 80 text) ++ quote_end text)

-- the number of the line that the fault is at, if it is at one
abbrev pub number_of : Fault → Option ℕ
number_of BadHeader = Some 1
number_of (BadLine number) = Some number
number_of (Cut number) = Some number
number_of _ = None

-- what is wrong with that line, in a trace of the version with this digit
abbrev pub wrong_of : Fault → ℕ → List ℕ
wrong_of BadHeader version = codes " is not a header, such as opacity-trace 1 8: "
wrong_of (Cut number) version = codes " is incomplete (no newline at the end): "
wrong_of _ version = codes " is not an event of a version " ++ (version ∷ codes " trace: ")

-- what the message advises after the quoted line, if anything: without its first line, a trace is empty
abbrev pub advice_of : Fault → List ℕ
advice_of (Cut number) = if nat_lt 1 number then codes ". Was the recorder killed? Drop this line with: sed '$d'" else []
advice_of _ = []

-- a first line that is empty, as that of no bytes at all is, has nothing to quote
abbrev pub is_empty_header : Fault → List ℕ → Bool
is_empty_header BadHeader text = length text == 0
is_empty_header _ text = false

abbrev pub empty_text : List ℕ
empty_text =
    codes "error: the input is empty or begins with an empty line; the first line must be a header, such as opacity-trace 1 8"

-- the whole line that is told
abbrev pub quote_text : ℕ → Fault → ℕ → List ℕ → List ℕ
quote_text number fault version text =
    if is_empty_header fault text
    then empty_text
    else ((((codes "error: line " ++ decimal number) ++ wrong_of fault version) ++ quoted text) ++ advice_of fault)

-- the digit of the version, which a trace's header tells behind its first word
abbrev pub version_in : List ℕ → ℕ
version_in bytes = get_or bytes 14 0

-- The sink for errors is told of the line that has the fault, and of a fault at no line nothing.
abbrev pub QuotesLine : {E : Type 0} → ToSink E → Option ℕ → Fault → List ℕ → E → E → Type 0
QuotesLine Errors None fault bytes old new = new ≡ old
QuotesLine Errors (Some number) fault bytes old new =
    IsSent Errors old new (line (quote_text number fault (version_in bytes) (line_at number bytes)))

-- What a command that reads a trace tells the sink for errors of these bytes: a remark on its run, or which line has the fault.
abbrev pub RemarksTrace : {E Found : Type 0} → ToSink E → (Found → Option Remark) → List ℕ → Result Found Fault → E → E → Type 0
RemarksTrace Errors remark bytes (Ok found) old new = Remarks Errors (remark found) old new
RemarksTrace Errors remark bytes (Err fault) old new = QuotesLine Errors (number_of fault) fault bytes old new

-- Only which line has the fault.
abbrev pub RemarksFault : {E Found : Type 0} → ToSink E → List ℕ → Result Found Fault → E → E → Type 0
RemarksFault Errors = RemarksTrace Errors (λ found. None)
