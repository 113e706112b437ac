-- The calls of scripts: those of transactions are calls, and what is left of calls are calls.
use Rattle.tmw_runs.proofs.Shared.{A, IsTrue, Kind, List, [], and_from, and_parts, answers, are_transactions, arith, is_call, is_operation, is_request, is_transaction, list_all, refl, ℕ, ◌∷◌}
use Rattle.tmw_runs.proofs.CallTexts.{are_calls}

-- a call may be answered by an abort event
pub answers_abort : (registers : ℕ) (call : Kind) → IsTrue (is_call registers call) → IsTrue (answers call A)
answers_abort registers call asks = grind arith

operation_is_call : (registers : ℕ) (call : Kind) → IsTrue (is_operation registers call) → IsTrue (is_call registers call)
operation_is_call registers call asks = grind arith

request_is_call : (registers : ℕ) (call : Kind) → IsTrue (is_request call) → IsTrue (is_call registers call)
request_is_call registers call asks = grind arith

transaction_calls : (registers : ℕ) (calls : List Kind) → IsTrue (is_transaction registers calls)
    → IsTrue (list_all (is_call registers) calls)
transaction_calls registers [] asks = absurd (cc)
transaction_calls registers (call ∷ []) asks = and_from _ _ (request_is_call registers call asks) refl
transaction_calls registers (call ∷ next ∷ calls) asks =
    let (operation, rest) = and_parts (is_operation registers call) (is_transaction registers (next ∷ calls)) asks in
    and_from _ _ (operation_is_call registers call operation) (transaction_calls registers (next ∷ calls) rest)

pub are_calls-transactions : (registers : ℕ) (script : List (List Kind)) → IsTrue (are_transactions registers script)
    → IsTrue (are_calls registers script)
are_calls-transactions registers [] asks = refl
are_calls-transactions registers (calls ∷ script) asks =
    let (first, rest) = and_parts (is_transaction registers calls) (are_transactions registers script) asks in
    and_from _ _ (transaction_calls registers calls first) (are_calls-transactions registers script rest)

-- the first call that is left, and what is left after it: in its transaction, and in those after
pub are_calls_first : (registers : ℕ) (call : Kind) (calls : List Kind) (later : List (List Kind))
    → IsTrue (are_calls registers ((call ∷ calls) ∷ later)) → IsTrue (is_call registers call)
are_calls_first registers call calls later asks = (and_parts _ _ (and_parts _ _ asks).0).0

pub are_calls_later : (registers : ℕ) (calls : List Kind) (later : List (List Kind))
    → IsTrue (are_calls registers (calls ∷ later)) → IsTrue (are_calls registers later)
are_calls_later registers calls later asks = (and_parts _ _ asks).1
