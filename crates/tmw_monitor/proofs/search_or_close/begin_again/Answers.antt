-- The first of the states is one of them.
use Rattle.tmw_monitor.proofs.Shared.{Contains, List, Some, State, [], contains_here, members, slice_get, subst, sym, ◌∙◌, ◌∷◌, ◌≡◌}
use Rattle.tmw_monitor.proofs.search_or_close.begin_again.Goals as goal

first_contained : (xs : List State) (x : State) → slice_get xs 0 ≡ Some x → Contains xs x
first_contained [] x at = absurd (cc)
first_contained (y ∷ ys) x at = let is : y ≡ x = cc in subst (λ (z : State). Contains (y ∷ ys) z) is (contains_here y ys)

pub returns-in-Some : goal.returns-in-Some
returns-in-Some c =
    c.restart.ensures.witnesses (members c.args.starts.now)
    (first_contained (members c.args.starts.now) c.in-Some.start (sym c.get.ensures ∙ c.in-Some.is))
