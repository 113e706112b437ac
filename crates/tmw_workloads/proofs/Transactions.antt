-- The calls of a transaction, by their texts and one by one.
use Rattle.tmw_workloads.proofs.Shared.{All, All-head, All-tail, Data, FitsKind, IsNoPart, IsTransaction, Kind, List, [], ap, arith, call_data, false, is_operation, is_request, is_transaction, list_all, map, refl, sym, transaction_data, ℕ, ◌&&◌, ◌++◌, ◌∙◌, ◌∷◌, ◌≡◌}
use Rattle.std.proofs.Math.Bool.{and-true}
use Rattle.tmw_trace.specs.KindTextInjectivity.{kind_text-injective}
use Rattle.tmw_workloads.proofs.Values.{array_same}

-- one text is one call, and so with lists of them
calls_same : (xs ys : List Kind) → All FitsKind xs → All FitsKind ys → map call_data xs ≡ map call_data ys → xs ≡ ys
calls_same [] [] fit fits is = refl
calls_same [] (y ∷ ys) fit fits is = cc
calls_same (x ∷ xs) [] fit fits is = cc
calls_same (x ∷ xs) (y ∷ ys) fit fits is =
    let here = kind_text-injective x y (All-head FitsKind x xs fit) (All-head FitsKind y ys fits) cc in
    let later = calls_same xs ys (All-tail FitsKind x xs fit) (All-tail FitsKind y ys fits) cc in
    cc

-- as the calls that were read are not those of a transaction, the value is that of none
pub none_of_calls : (registers : ℕ) (content : Data) (calls : List Kind) → content ≡ transaction_data calls
    → All FitsKind calls → is_transaction registers calls ≡ false → IsNoPart transaction_data (IsTransaction registers) content
none_of_calls registers content calls is fit not_right other right writes =
    let texts = array_same (map call_data calls) (map call_data other) (sym is ∙ writes) in
    let same = calls_same calls other fit right.1 texts in
    grind arith

-- operations, and then a request
pub is_transaction-push : (registers : ℕ) (calls : List Kind) (last : Kind)
    → is_transaction registers (calls ++ last ∷ []) ≡ (list_all (is_operation registers) calls && is_request last)
is_transaction-push registers [] last = refl
is_transaction-push registers (call ∷ []) last = ap (λ b. b && is_request last) (sym (and-true (is_operation registers call)))
is_transaction-push registers (call ∷ next ∷ calls) last = grind (arith, is_transaction-push registers (next ∷ calls) last)
