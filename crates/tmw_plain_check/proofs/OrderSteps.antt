-- The steps of the search for a serial order, as the code makes them.
use Rattle.tmw_plain_check.proofs.Shared.{Bool, Bor, IfOk, IsTrue, List, PlainTransaction, Result, Some, State, Txn, after_writes, ap, arith, drop, drop-map, false, found_below, has_order, is_explained, is_free, length, map-append, may_come, may_hold, ne_eqb, one_below, operations, reads_hold, refl, remove, shown, slice_get, slice_get-map, slice_get_within, status_of, suc, take, take-map, true, txn_of, ℕ, ◌&&◌, ◌+◌, ◌-◌, ◌<◌, ◌==◌, ◌||◌, ◌∙◌, ◌≡◌}
use Rattle.std.specs.Option.{option_map}
use Rattle.std.proofs.lemmas.List.Edits.{length-remove}

pub shown-remove : (ws : List (Bor PlainTransaction)) (i : ℕ) → shown (remove ws i) ≡ remove (shown ws) i
shown-remove ws i = grind (arith, map-append, txn_of, take, drop, take-map, drop-map)

-- the transaction that a reference at a place shows
pub shown_at : (ws : List (Bor PlainTransaction)) (i : ℕ) (w : Bor PlainTransaction) → slice_get ws i ≡ Some w
    → slice_get (shown ws) i ≡ Some (txn_of w.now)
shown_at ws i w at = slice_get-map (λ t. txn_of t.now) ws i ∙ ap (option_map (λ t. txn_of t.now)) at

has_order-suc : (n k : ℕ) (s : State) (ts : List Txn) → n ≡ suc k → has_order n s ts ≡ one_below (has_order k) s ts n
has_order-suc n k s ts is = rw is refl

-- one of the transactions can come first, so they have an order
pub explained_found : (s : State) (ts : List Txn) (n i : ℕ) → n ≡ length ts → i < n
    → IsTrue (may_come (has_order (n - 1)) s ts i) → IsTrue (is_explained s ts)
explained_found s ts n i size below may =
    let step : has_order n s ts ≡ one_below (has_order (n - 1)) s ts n = has_order-suc n (n - 1) s ts (omega arith) in
    grind (arith, has_order, found_below)

-- none of them can, so they have one only if there are none
pub explained_none : (s : State) (ts : List Txn) (n : ℕ) → n ≡ length ts
    → one_below (has_order (n - 1)) s ts n ≡ false → (n == 0) ≡ is_explained s ts
explained_none s ts n size none_below = grind (arith, has_order-suc, ne_eqb)

-- what it takes for the one at a place to come first
pub may_come-at : (s : State) (ts rest : List Txn) (n i : ℕ) (t : Txn) → n ≡ length ts → slice_get ts i ≡ Some t
    → rest ≡ remove ts i
    → may_come (has_order (n - 1)) s ts i ≡
    (is_free t rest && reads_hold s (operations t.text)
    && (may_hold (status_of t.text) true && is_explained (after_writes s (operations t.text)) rest
    || may_hold (status_of t.text) false && is_explained s rest))
may_come-at s ts rest n i t size at is =
    let one_less : length (remove ts i) + 1 ≡ length ts = length-remove ts i (slice_get_within ts i t at) in
    let left : n - 1 ≡ length rest = rw is (omega arith) in cc

-- the answer of the code that tried the one at a place
pub may_come-whole : {E : Type 0} (s after : State) (ts rest : List Txn) (n i : ℕ) (t : Txn) (r : Result Bool E)
    → n ≡ length ts → slice_get ts i ≡ Some t → rest ≡ remove ts i
    → true ≡ is_free t rest → IsTrue (reads_hold s (operations t.text)) → after ≡ after_writes s (operations t.text)
    → IfOk r (λ goes. goes ≡ (may_hold (status_of t.text) true && is_explained after rest || may_hold (status_of t.text) false && is_explained s rest))
    → IfOk r (λ may. may ≡ may_come (has_order (n - 1)) s ts i)
may_come-whole s after ts rest n i t r size at is free reads end goes = grind (arith, may_come-at s ts rest n i t size at is)
