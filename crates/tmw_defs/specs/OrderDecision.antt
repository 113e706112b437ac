-- Whether transactions have a legal serial order, by trying each as the next one. That this decides it is proved in proofs/DecisionProof.
use Rattle.std.specs.Prelude.{◌&&◌, ◌||◌, ℕ, zero, suc, Bool, true, false, not, List, [], ◌∷◌, length, remove, slice_get, Option, Some, None}
use Rattle.std.specs.List.{list_all}
use Rattle.tmw_defs.specs.History.{Txn, operations}
use Rattle.tmw_defs.specs.Opaque.{State, Placed, precedes, may_be, reads_hold, after}

-- None of the others precedes this transaction in real time.
abbrev pub is_free : Txn → List Txn → Bool
is_free t others = list_all (λ u. not (precedes u t)) others

-- Whether the rest goes on after this transaction, where a completion may hold it, or leave it out, as told here.
-- `next` tells of a state and a list of transactions whether these have an order from there.
abbrev pub one_way : (State → List Txn → Bool) → State → List Txn → Placed → Bool
one_way next s rest p = may_be p && next (after s p) rest

-- Whether this transaction may come first, with the rest after it.
abbrev pub comes : (State → List Txn → Bool) → State → List Txn → Option Txn → Bool
comes next s rest None = false
comes next s rest (Some t) =
    is_free t rest && reads_hold s (operations t.text)
    && (one_way next s rest (record { txn = t; held = true }) || one_way next s rest (record { txn = t; held = false }))

abbrev pub may_come : (State → List Txn → Bool) → State → List Txn → ℕ → Bool
may_come next s ts i = comes next s (remove ts i) (slice_get ts i)

-- Whether one of the first so many transactions may come first.
abbrev pub one_below : (State → List Txn → Bool) → State → List Txn → ℕ → Bool
one_below next s ts zero = false
one_below next s ts (suc i) = one_below next s ts i || may_come next s ts i

-- Whether so many transactions, as many as the list has, have a legal serial order from the state.
abbrev pub has_order : ℕ → State → List Txn → Bool
has_order zero s [] = true
has_order zero s (t ∷ ts) = false
has_order (suc n) s ts = one_below (has_order n) s ts (suc n)

-- Whether the transactions have a legal serial order from the state.
abbrev pub is_explained : State → List Txn → Bool
is_explained s ts = has_order (length ts) s ts
