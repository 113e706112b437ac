-- The JSON value that a workload is written as, and the texts that a reader of workloads is given.
use Rattle.tmw_workloads.specs.Shared.{Data, FitsKind, Kind, array, items_of, kind_text, member, no_members, number, object, string, unsigned}
use Rattle.std.specs.Prelude.{All, IsTrue, IsUtf8, List, None, Some, codes, map, ℕ, ◌<◌, ◌≡◌, ◌≤◌}
use Rattle.serde_json.specs.Read.{read}
use Rattle.tmw_workloads.specs.Workload.{is_workload}

-- An array of what each element is written as.
abbrev pub list_data : {A : Type 0} → (A → Data) → List A → Data
list_data written elements = array (items_of (map written elements))

-- A whole number is written without a sign, a fraction or an exponent.
abbrev pub number_data : ℕ → Data
number_data n = number (unsigned n)

-- A call is a string: its text in a trace.
abbrev pub call_data : Kind → Data
call_data call = string (kind_text call)

-- A transaction is the array of its calls.
abbrev pub transaction_data : List Kind → Data
transaction_data calls = list_data call_data calls

-- A script is the array of its transactions.
abbrev pub script_data : List (List Kind) → Data
script_data script = list_data transaction_data script

-- An object with these three keys and no other. A value has its keys in byte order, whatever their order in a text.
abbrev pub fields_data : Data → Data → Data → Data
fields_data order registers scripts =
    object (member (codes "order") order (member (codes "registers") registers (member (codes "scripts") scripts no_members)))

-- A workload is the object of its order, its number of registers and its scripts.
abbrev pub workload_data : ℕ → List (List (List Kind)) → List ℕ → Data
workload_data registers scripts order =
    fields_data (list_data number_data order) (number_data registers) (list_data script_data scripts)

-- The values of all calls have 64 bits.
abbrev pub FitScripts : List (List (List Kind)) → Type 0
FitScripts scripts = All (All (All FitsKind)) scripts

-- The bytes are UTF-8, and the JSON text of this value.
abbrev pub IsTextOf : Data → List ℕ → Type 0
IsTextOf content bytes = IsUtf8 bytes × (read bytes ≡ Some content)

-- The bytes are the text of a workload of so many registers, with these scripts and this order.
abbrev pub IsWorkloadText : ℕ → List (List (List Kind)) → List ℕ → List ℕ → Type 0
IsWorkloadText registers scripts order bytes = IsTextOf (workload_data registers scripts order) bytes × FitScripts scripts

-- The value is that of no workload.
abbrev pub IsNoWorkload : Data → Type 0
IsNoWorkload content =
    (registers : ℕ) (scripts : List (List (List Kind))) (order : List ℕ) → 0 < registers → registers ≤ 8
    → IsTrue (is_workload registers scripts order) → FitScripts scripts → content ≡ workload_data registers scripts order → ⊥

-- The bytes are the text of a value, but of no workload's.
abbrev pub IsOtherText : List ℕ → Type 0
IsOtherText bytes = (content : Data) × IsTextOf content bytes × IsNoWorkload content

-- The bytes are no JSON text that `serde_json` reads: they are not UTF-8, or it reads no value from them.
abbrev pub IsNoText : List ℕ → Type 0
IsNoText bytes = IsUtf8 bytes → read bytes ≡ None
