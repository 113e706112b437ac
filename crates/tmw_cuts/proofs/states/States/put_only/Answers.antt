-- A list of one element rises.
use Rattle.tmw_cuts.proofs.Shared.{IsStrictlySortedBy, List, State, [], arith, length, refl, slice_set, ◌∷◌, ◌≡◌}
use Rattle.tmw_cuts.proofs.states.States.put_only.Goals as goal

set-only : (xs : List State) (s : State) → length xs ≡ 1 → slice_set xs 0 s ≡ s ∷ []
set-only [] s one = absurd (omega (arith, one))
set-only (x ∷ []) s one = refl
set-only (x ∷ y ∷ xs) s one = absurd (omega (arith, one))

pub invariant_of-self : goal.invariant_of-self
unfolding IsStrictlySortedBy
invariant_of-self c = record { rising = rw (set-only c.args.self.now.items.items c.args.state.now c.requires) (tt, tt) }

pub returns-clause-members : goal.returns-clause-members
returns-clause-members c = set-only c.args.self.now.items.items c.args.state.now c.requires
