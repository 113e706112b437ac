-- The lines that the program writes, each with its line feed, and its exit status. Each line is compact JSON with its keys
-- in byte order.
use Rattle.tmw_report.specs.Shared.{decimal}
use Rattle.std.specs.Prelude.{ℕ, Bool, true, false, List, [], ◌++◌, ◌||◌, codes, if◌then◌else◌}
use Rattle.tmw_defs.specs.declared.criterion.Criterion.{Criterion}
use Rattle.tmw_defs.specs.declared.criterion.Criterion.TheVariants.{Opacity, Strict}
use Rattle.tmw_defs.specs.declared.verdict.Verdict.{Verdict}
use Rattle.tmw_defs.specs.declared.verdict.Verdict.TheVariants.{OpaqueSoFar, StrictSoFar, Violated, Undecided, Malformed}
use Rattle.tmw_defs.specs.declared.verdict.Why.{Why}
use Rattle.tmw_defs.specs.declared.verdict.Why.TheVariants.{Transactions, States}
use Rattle.tmw_report.specs.declared.fault.Fault.{Fault}
use Rattle.tmw_report.specs.declared.fault.Fault.TheVariants.{BadHeader, BadLine, Cut, TooLong, Memory, Io, Json, Shape, Registers, Ring, Spawn, Size, Limit, Usage}

-- the word for the bound that was passed
abbrev pub reason_text : Why → List ℕ
reason_text Transactions = codes "transactions"
reason_text States = codes "states"

-- the member that names the criterion where it is not opacity, with its comma
abbrev pub criterion_text : Criterion → List ℕ
criterion_text Opacity = []
criterion_text Strict = codes "\"criterion\":\"strict\","

-- the line of a verdict by this criterion on a history of so many events
abbrev pub report_by : Criterion → ℕ → Verdict → List ℕ
report_by criterion events OpaqueSoFar =
    codes "{" ++ (criterion_text criterion ++ (codes "\"events\":" ++ (decimal events ++ codes ",\"verdict\":\"opaque so far\"}\n")))
report_by criterion events StrictSoFar =
    codes "{" ++ (criterion_text criterion ++ (codes "\"events\":" ++ (decimal events ++ codes ",\"verdict\":\"strict so far\"}\n")))
report_by criterion events (Violated at) =
    codes "{\"at\":"
    ++ (decimal at ++ (codes "," ++ (criterion_text criterion ++ (codes "\"events\":" ++ (decimal events ++ codes ",\"verdict\":\"violated\"}\n")))))
report_by criterion events (Undecided at why) =
    codes "{\"at\":"
    ++ (decimal at
    ++ (codes ","
    ++ (criterion_text criterion
    ++ (codes "\"events\":"
    ++ (decimal events ++ (codes ",\"verdict\":\"undecided\",\"why\":\"" ++ (reason_text why ++ codes "\"}\n")))))))
report_by criterion events (Malformed at) =
    codes "{\"at\":"
    ++ (decimal at ++ (codes "," ++ (criterion_text criterion ++ (codes "\"events\":" ++ (decimal events ++ codes ",\"verdict\":\"malformed\"}\n")))))

-- the line where the criterion is opacity
abbrev pub report_text : ℕ → Verdict → List ℕ
report_text = report_by Opacity

-- the line where the criterion is strict serializability
abbrev pub strict_text : ℕ → Verdict → List ℕ
strict_text = report_by Strict

-- the exit status that goes with a verdict
abbrev pub verdict_status : Verdict → ℕ
verdict_status OpaqueSoFar = 0
verdict_status StrictSoFar = 0
verdict_status (Violated at) = 1
verdict_status (Undecided at why) = 2
verdict_status (Malformed at) = 3

abbrev pub is_malformed : Verdict → Bool
is_malformed (Malformed at) = true
is_malformed _ = false

abbrev pub is_violated : Verdict → Bool
is_violated (Violated at) = true
is_violated _ = false

abbrev pub is_undecided : Verdict → Bool
is_undecided (Undecided at why) = true
is_undecided _ = false

-- the exit status that goes with the two verdicts by both criteria: 3 where either is malformed, else 1 where either is violated,
-- else 2 where either is undecided, else 0
abbrev pub both_status : Verdict → Verdict → ℕ
both_status opacity strict =
    if is_malformed opacity || is_malformed strict
    then 3
    else (if is_violated opacity || is_violated strict then 1 else (if is_undecided opacity || is_undecided strict then 2 else 0))

-- the end of an object and of its line
abbrev pub line_end : List ℕ
line_end = codes "}\n"

-- the line of a fault
abbrev pub fault_line : Fault → List ℕ
fault_line BadHeader = codes "{\"fault\":\"bad header\"}\n"
fault_line (BadLine line) = codes "{\"fault\":\"bad line\",\"line\":" ++ (decimal line ++ line_end)
fault_line (Cut line) = codes "{\"fault\":\"cut\",\"line\":" ++ (decimal line ++ line_end)
fault_line TooLong = codes "{\"fault\":\"too long\"}\n"
fault_line Memory = codes "{\"fault\":\"memory\"}\n"
fault_line Io = codes "{\"fault\":\"io\"}\n"
fault_line Json = codes "{\"fault\":\"json\"}\n"
fault_line Shape = codes "{\"fault\":\"shape\"}\n"
fault_line Registers = codes "{\"fault\":\"registers\"}\n"
fault_line Ring = codes "{\"fault\":\"ring\"}\n"
fault_line Spawn = codes "{\"fault\":\"spawn\"}\n"
fault_line Size = codes "{\"fault\":\"size\"}\n"
fault_line Limit = codes "{\"fault\":\"limit\"}\n"
fault_line Usage = codes "{\"fault\":\"usage\"}\n"
