-- The rules of a part, by those of its parts.
use Rattle.tmw_workloads.proofs.Shared.{All, AreScripts, Bool, FitsKind, IsOrder, IsScript, IsTransaction, IsTrue, Kind, List, and_from, and_parts, arith, is_short_script, is_short_transaction, is_workload, le-leb, length, list_all, lt-ltb, ltb-true, nat_lt, ℕ, ◌<◌, ◌≤◌}
use Rattle.std.proofs.lemmas.List.Sums.{AllPass-from_list_all, list_all-from_AllPass}

-- what a test and a fact say of each element
all_from_each : {A : Type 0} (test : A → Bool) (P : A → Type 0) (xs : List A) → All (λ x. IsTrue (test x) × P x) xs
    → IsTrue (list_all test xs) × All P xs
all_from_each test P xs each = grind (arith, list_all-from_AllPass)

each_from_all : {A : Type 0} (test : A → Bool) (P : A → Type 0) (xs : List A) → IsTrue (list_all test xs) → All P xs
    → All (λ x. IsTrue (test x) × P x) xs
each_from_all test P xs tests all k d within = (AllPass-from_list_all test xs tests k d within, all k d within)

pub script_right : (registers : ℕ) (script : List (List Kind)) → length script ≤ 1000 → All (IsTransaction registers) script
    → IsScript registers script
script_right registers script short each =
    let all = all_from_each (is_short_transaction registers) (All FitsKind) script each in
    (and_from _ _ (le-leb (length script) 1000 short) all.0, all.1)

pub script_each : (registers : ℕ) (script : List (List Kind)) → IsScript registers script → All (IsTransaction registers) script
script_each registers script right =
    each_from_all (is_short_transaction registers) (All FitsKind) script (and_parts _ _ right.0).1 right.1

pub scripts_right : (registers : ℕ) (scripts : List (List (List Kind))) → 0 < length scripts → length scripts ≤ 8
    → All (IsScript registers) scripts → AreScripts registers scripts
scripts_right registers scripts some short each =
    grind (arith, all_from_each (is_short_script registers) (All (All FitsKind)) scripts each)

pub scripts_each : (registers : ℕ) (scripts : List (List (List Kind))) → AreScripts registers scripts
    → All (IsScript registers) scripts
scripts_each registers scripts right =
    each_from_all (is_short_script registers) (All (All FitsKind)) scripts (and_parts _ _ right.0).1 right.1

pub scripts_some : (registers : ℕ) (scripts : List (List (List Kind))) → AreScripts registers scripts → 0 < length scripts
scripts_some registers scripts right = ltb-true 0 (length scripts) (and_parts _ _ (and_parts _ _ right.0).0).0

pub order_right : (threads : ℕ) (order : List ℕ) → length order ≤ 100000 → All (λ thread. thread < threads) order
    → IsOrder threads order
order_right threads order short each = grind (arith, and_from, le-leb, list_all-from_AllPass, nat_lt, lt-ltb)

pub order_each : (threads : ℕ) (order : List ℕ) → IsOrder threads order → All (λ thread. thread < threads) order
order_each threads order right k d within =
    ltb-true _ threads (AllPass-from_list_all (λ thread. nat_lt thread threads) order (and_parts _ _ right).1 k d within)

pub workload_order : (registers : ℕ) (scripts : List (List (List Kind))) (order : List ℕ)
    → IsTrue (is_workload registers scripts order) → IsOrder (length scripts) order
workload_order registers scripts order right = (and_parts _ _ right).1
