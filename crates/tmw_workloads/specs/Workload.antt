-- What a workload is.
use Rattle.tmw_workloads.specs.Shared.{Kind, is_transaction, list_all}
use Rattle.std.specs.Prelude.{Bool, List, length, nat_le, nat_lt, ℕ, ◌&&◌}

-- The transaction has 1 to 64 calls, of which the last alone is a request.
abbrev pub is_short_transaction : ℕ → List Kind → Bool
is_short_transaction registers calls = nat_le (length calls) 64 && is_transaction registers calls

-- At most 1,000 transactions.
abbrev pub is_short_script : ℕ → List (List Kind) → Bool
is_short_script registers script = nat_le (length script) 1000 && list_all (is_short_transaction registers) script

-- Scripts for 1 to 8 threads.
abbrev pub are_scripts : ℕ → List (List (List Kind)) → Bool
are_scripts registers scripts =
    nat_lt 0 (length scripts) && nat_le (length scripts) 8 && list_all (is_short_script registers) scripts

-- At most 100,000 entries, each of which names a thread that has a script.
abbrev pub is_order : ℕ → List ℕ → Bool
is_order threads order = nat_le (length order) 100000 && list_all (λ thread. nat_lt thread threads) order

abbrev pub is_workload : ℕ → List (List (List Kind)) → List ℕ → Bool
is_workload registers scripts order = are_scripts registers scripts && is_order (length scripts) order
