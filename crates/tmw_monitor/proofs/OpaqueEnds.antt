-- Where opacity has each outcome that strict serializability has, it has the same.
use Rattle.tmw_monitor.proofs.Shared.{Contains, EndsOf, Event, List, Opacity, Outcome, State, States, Strict, TellsEnds, ends-by, length, members, one_member, subst, transactions, ℕ, ◌≡◌}

-- What was found strictly is found by opacity: outcomes, where it has them all,
pub opaque-fine : (old outcomes : States) (cap : ℕ) (events : List Event)
    → ((end : State) → EndsOf Strict old events end → EndsOf Opacity old events end) → TellsEnds Strict old cap events outcomes Outcome
    → TellsEnds Opacity old cap events outcomes Outcome
opaque-fine old outcomes cap events same (few, exact, end, some) = (
  few,
  λ s. (λ has. same s ((exact s).0 has), λ is. (exact s).1 (ends-by Strict (Contains (members old)) (transactions events) s is)),
  end,
  some,
)

-- or none.
pub opaque-none : (old : States) (events : List Event) → ((end : State) → EndsOf Strict old events end → ⊥)
    → (end : State) → EndsOf Opacity old events end → ⊥
opaque-none old events never end is = never end (ends-by Strict (Contains (members old)) (transactions events) end is)

-- The only outcome found strictly is one by opacity, where that has any.
pub alone-opaquely : (old outcomes : States) (cap : ℕ) (events : List Event) (one : State) → length (members outcomes) ≡ 1
    → EndsOf Opacity old events one → TellsEnds Strict old cap events outcomes Outcome
    → (end : State) → EndsOf Strict old events end → EndsOf Opacity old events end
alone-opaquely old outcomes cap events one alone is ends end strictly =
    let first = (ends.1 one).1 (ends-by Strict (Contains (members old)) (transactions events) one is) in
    subst (λ (e : State). EndsOf Opacity old events e) (one_member (members outcomes) one end alone first ((ends.1 end).1 strictly)) is
