-- Layers: after k transactions were placed, which sets of k and which states can be reached. A set of the transactions of a
-- list is a mask: bit j chooses the one at place j.
use Rattle.tmw_search.specs.Shared.{Ends, State, Txn, View, after_writes, bit_at, may_hold, nat_cmp, on, precedes, reads_hold, slice_cmp, then_cmp}
use Rattle.std.specs.Prelude.{Bool, IsTrue, List, Some, [], bit_or, false, if◌then◌else◌, length, slice_get, ℕ, ◌%◌, ◌*◌, ◌/◌, ◌<◌, ◌==◌, ◌^◌, ◌∷◌, ◌≡◌}
use Rattle.std.specs.declared.cmp.Ordering.{Ordering}

-- The transactions that the mask chooses, in their order.
abbrev pub chosen : ℕ → List Txn → List Txn
chosen mask [] = []
chosen mask (t ∷ ts) = if mask % 2 == 1 then t ∷ chosen (mask / 2) ts else chosen (mask / 2) ts

-- No transaction that the mask leaves precedes one that it chooses.
abbrev pub LeavesNone : ℕ → List Txn → Type 0
LeavesNone mask ts = (i j : ℕ) (t u : Txn) → slice_get ts i ≡ Some t → slice_get ts j ≡ Some u → bit_at mask i ≡ 0
    → bit_at mask j ≡ 1 → precedes t u ≡ false

-- Some order of just the k transactions that the mask chooses, which leaves out none that precedes one of them, ends in the
-- state, from a state of the set.
pub record InLayer (S : State → Type 0) (ts : List Txn) (k mask : ℕ) (state : State) : Type 0 where
  pub fits : mask < 2 ^ length ts
  pub size : length (chosen mask ts) ≡ k
  pub closed : LeavesNone mask ts
  pub ends : Ends S (chosen mask ts) state

-- The smaller mask first, then the state whose first differing register is smaller.
abbrev pub pair_cmp : ℕ × State → ℕ × State → Ordering
pair_cmp = then_cmp (on (λ (p : ℕ × State). p.0) nat_cmp) (on (λ (p : ℕ × State). p.1) (slice_cmp nat_cmp))

-- No transaction is placed, and the state is this one.
abbrev pub IsFirst : State → ℕ × State → Type 0
IsFirst s p = (p.0 ≡ 0) × (p.1 ≡ s)

-- The transaction at the place isn't placed, and each that precedes it is.
pub record MayCome (before place mask : ℕ) : Type 0 where
  pub new : bit_at mask place ≡ 0
  pub later : (i : ℕ) → bit_at before i ≡ 1 → bit_at mask i ≡ 1

-- Placing the transaction, held or left out as told here, makes the second pair of the first: it may come next, a completion may
-- hold it so, it read what the state has, and where it is held its writes are made.
pub record Makes (x : View) (place : ℕ) (held : Bool) (p q : ℕ × State) : Type 0 where
  pub comes : MayCome x.before place p.0
  pub may : IsTrue (may_hold x.status held)
  pub reads : IsTrue (reads_hold p.1 x.ops)
  pub mask : q.0 ≡ bit_or p.0 (1 * 2 ^ place % 2 ^ 8)
  pub state : q.1 ≡ (if held then after_writes p.1 x.ops else p.1)

abbrev pub MakesAt : List View → ℕ × State → ℕ → ℕ × State → Type 0
MakesAt xs p place q = (x : View) × (slice_get xs place ≡ Some x) × (held : Bool) × Makes x place held p q

-- Placing one of the transactions makes the second pair of the first.
abbrev pub Follows : List View → ℕ × State → ℕ × State → Type 0
Follows xs p q = (place : ℕ) × MakesAt xs p place q
