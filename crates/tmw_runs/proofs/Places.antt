-- Calls that are each at their place.
use Rattle.tmw_runs.proofs.Shared.{A, IsPlaced, IsTrue, Kind, List, PlacedLaw, [], and_from, arith, get_or, is_call, is_operation, is_request, is_transaction, length, suc, true, ℕ, ◌+◌, ◌<◌, ◌∷◌, ◌≡◌}

-- a call that asks neither to commit nor to abort
operates : (registers : ℕ) (call : Kind) → is_call registers call ≡ true → (is_request call ≡ true → ⊥) → is_operation registers call ≡ true
operates registers call calls other = grind arith

-- each is at its place among more calls, the first of which stand in front of it
abbrev ArePlaced : (registers front : ℕ) → List Kind → Type 0
ArePlaced registers front calls = (place : ℕ) → place < length calls
    → (is_call registers (get_or calls place A) ≡ true) × IsPlaced (front + length calls) (front + place) (get_or calls place A)

-- so are those behind the first
placed_behind : (registers front : ℕ) (call : Kind) (calls : List Kind) → ArePlaced registers front (call ∷ calls)
    → ArePlaced registers (front + 1) calls
placed_behind registers front call calls each place low =
    let (is, placed) = each (suc place) (omega arith) in grind (arith, length, get_or)

transaction-placed : (registers front : ℕ) (calls : List Kind) → 0 < length calls → ArePlaced registers front calls
    → IsTrue (is_transaction registers calls)
transaction-placed registers front [] some each = absurd (omega arith)
transaction-placed registers front (call ∷ []) some each =
    let (is, (fits, last)) = each 0 (omega arith) in grind arith
transaction-placed registers front (call ∷ next ∷ calls) some each =
    let (is, (fits, last)) = each 0 (omega arith) in
    let operation : is_operation registers call ≡ true =
    operates registers call is (λ asks. absurd (let end = last.0 asks in omega (arith, end))) in
    and_from (is_operation registers call) (is_transaction registers (next ∷ calls)) operation
    (transaction-placed registers (front + 1) (next ∷ calls) (omega arith) (placed_behind registers front call (next ∷ calls) each))

pub placed_law : PlacedLaw
placed_law registers calls some each = transaction-placed registers 0 calls some (λ place low.
    let (is, placed) = each place low in grind arith)
