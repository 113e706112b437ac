-- Strict serializability (Papadimitriou 1979), from any start state: as opacity, but a serial order has the transactions that the
-- completion holds, and no others, so that nothing is asked of what others read.
use Rattle.std.specs.Prelude.{◌≡◌, ◌≤◌, ◌⊎◌, ℕ, true, false, List, [], ◌∷◌, length, take, IsTrue}
use Rattle.std.specs.List.{list_all}
use Rattle.tmw_events.specs.declared.event.Event.{Event}
use Rattle.tmw_defs.specs.History.{Txn, status_of, transactions, is_well_formed}
use Rattle.tmw_defs.specs.Opaque.{State, Placed, may_hold, Explains}

-- What a completion of these transactions holds: each committed one, any of the commit-pending ones, and no other.
abbrev pub AreHeld : List Txn → List Txn → Type 0
AreHeld [] members = members ≡ []
AreHeld (t ∷ ts) members =
    (IsTrue (may_hold (status_of t.text) false) × AreHeld ts members)
    ⊎ (IsTrue (may_hold (status_of t.text) true) × (more : List Txn) × (members ≡ t ∷ more) × AreHeld ts more)

-- A serial order of the transactions that a completion holds, all of them held, that keeps the real-time order among them and is
-- legal from the state.
pub record ExplainsStrictly (s : State) (ts : List Txn) (order : List Placed) : Type 0 where
  pub members : List Txn
  pub are : AreHeld ts members
  pub explains : Explains s members order
  pub held : IsTrue (list_all (λ p. p.held) order)

abbrev pub HasStrictOrder : State → List Txn → Type 0
HasStrictOrder s ts = (order : List Placed) × ExplainsStrictly s ts order

-- Final-state strict: well-formed, and some completion and serial order of what it holds explains what those transactions read.
pub record IsFinalStrict (registers : ℕ) (start : State) (history : List Event) : Type 0 where
  pub formed : IsTrue (is_well_formed registers history)
  pub ordered : HasStrictOrder start (transactions history)

-- Strictly serializable: each prefix, the history itself included, is final-state strict.
abbrev pub IsStrict : ℕ → State → List Event → Type 0
IsStrict registers start history = (n : ℕ) → n ≤ length history → IsFinalStrict registers start (take n history)
