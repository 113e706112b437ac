-- The states in which transactions may end, over all their legal serial orders and completions.
use Rattle.std.specs.Prelude.{◌≡◌, ◌≢◌, ◌<◌, ℕ, List, [], ◌∷◌, length, All, AllPairs}
use Rattle.tmw_defs.specs.History.{Txn}
use Rattle.tmw_defs.specs.Opaque.{State, Placed, Explains, after}

-- The state after the last transaction of an order.
abbrev pub end_state : State → List Placed → State
end_state s [] = s
end_state s (p ∷ more) = end_state (after s p) more

-- Some serial order and completion of the transactions, legal from the one state, ends in the other.
abbrev pub Leads : State → List Txn → State → Type 0
Leads s ts r = (order : List Placed) × Explains s ts order × (end_state s order ≡ r)

-- The end states of these transactions from the states of a set. A set of states is a predicate.
abbrev pub Ends : (State → Type 0) → List Txn → State → Type 0
Ends S ts r = (s : State) × S s × Leads s ts r

-- The set of this state alone.
abbrev pub Only : State → State → Type 0
Only s r = r ≡ s

-- The set has more than so many states.
pub record MoreThan (most : ℕ) (S : State → Type 0) : Type 0 where
  pub some : List State
  pub more : most < length some
  pub differ : AllPairs (λ s t. s ≢ t) some
  pub among : All S some
