-- The parts of a workload that are read one by one, each with the values of its calls in 64 bits.
use Rattle.tmw_workloads.specs.Shared.{Data, FitsKind, Kind}
use Rattle.std.specs.Prelude.{All, IsTrue, List, ℕ, ◌≡◌}
use Rattle.tmw_workloads.specs.Json.{FitScripts}
use Rattle.tmw_workloads.specs.Workload.{are_scripts, is_order, is_short_script, is_short_transaction}

-- A right transaction over so many registers.
abbrev pub IsTransaction : ℕ → List Kind → Type 0
IsTransaction registers calls = IsTrue (is_short_transaction registers calls) × All FitsKind calls

-- A right script.
abbrev pub IsScript : ℕ → List (List Kind) → Type 0
IsScript registers script = IsTrue (is_short_script registers script) × All (All FitsKind) script

-- Right scripts for all threads.
abbrev pub AreScripts : ℕ → List (List (List Kind)) → Type 0
AreScripts registers scripts = IsTrue (are_scripts registers scripts) × FitScripts scripts

-- A right order of so many threads.
abbrev pub IsOrder : ℕ → List ℕ → Type 0
IsOrder threads order = IsTrue (is_order threads order)

-- No right part is written as this value.
abbrev pub IsNoPart : {A : Type 0} → (A → Data) → (A → Type 0) → Data → Type 0
IsNoPart {A} written IsRight content = (part : A) → IsRight part → content ≡ written part → ⊥
