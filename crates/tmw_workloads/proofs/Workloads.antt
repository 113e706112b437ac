-- What a workload tells of its scripts and its order.
use Rattle.tmw_workloads.proofs.Shared.{All, All-cons, All-nil, IsTrue, Kind, List, [], and_from, and_parts, are_transactions, arith, is_short_script, is_short_transaction, is_workload, length, list_all, ltb-true, nat_lt, refl, script_at, suc, zero, ℕ, ◌<◌, ◌∷◌, ◌≤◌}
use Rattle.std.specs.Prelude.{nat_le}

pub length-order : (registers : ℕ) (scripts : List (List (List Kind))) (order : List ℕ) → IsTrue (is_workload registers scripts order)
    → length order ≤ 100000
length-order registers scripts order is = grind arith

all_below : (threads : ℕ) (order : List ℕ) → IsTrue (list_all (λ thread. nat_lt thread threads) order) → All (λ thread. thread < threads) order
all_below threads [] is = All-nil (λ thread. thread < threads)
all_below threads (first ∷ order) is =
    let (here, rest) = and_parts (nat_lt first threads) _ is in
    All-cons (λ thread. thread < threads) first order (ltb-true first threads here) (all_below threads order rest)

-- each entry names a thread that has a script
pub within-order : (registers : ℕ) (scripts : List (List (List Kind))) (order : List ℕ) → IsTrue (is_workload registers scripts order)
    → All (λ thread. thread < length scripts) order
within-order registers scripts order is = grind (arith, and_parts, all_below)

are_transactions-short : (registers : ℕ) (script : List (List Kind)) → IsTrue (list_all (is_short_transaction registers) script)
    → IsTrue (are_transactions registers script)
are_transactions-short registers [] is = refl
are_transactions-short registers (calls ∷ script) is =
    let (here, rest) = and_parts (is_short_transaction registers calls) _ is in
    and_from _ _ (and_parts (nat_le (length calls) 64) _ here).1 (are_transactions-short registers script rest)

at_thread : (registers : ℕ) (scripts : List (List (List Kind))) (thread : ℕ) → IsTrue (list_all (is_short_script registers) scripts)
    → IsTrue (are_transactions registers (script_at scripts thread))
at_thread registers [] thread is = refl
at_thread registers (script ∷ scripts) zero is = grind (arith, and_parts, are_transactions-short)
at_thread registers (script ∷ scripts) (suc thread) is =
    at_thread registers scripts thread (and_parts (is_short_script registers script) _ is).1

-- each thread's script is of transactions; a thread without a script has none
pub are_transactions-workload : (registers : ℕ) (scripts : List (List (List Kind))) (order : List ℕ) → IsTrue (is_workload registers scripts order)
    → (thread : ℕ) → IsTrue (are_transactions registers (script_at scripts thread))
are_transactions-workload registers scripts order is thread = grind (arith, and_parts, at_thread)
