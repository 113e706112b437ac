-- Before its first event a history is summed up by the set of its start state.
use Rattle.tmw_monitor.proofs.Shared.{Contains, List, Rules, State, States, SumsUp, [], arith, members, subst, sums_up-new, sym, ◌<◌, ◌↔◌, ◌∷◌, ◌≡◌}

contains_one : (x y : State) → Contains (x ∷ []) y ↔ (y ≡ x)
contains_one x y = grind arith

pub sums_up-one : (rules : Rules) (states : States) → 0 < rules.states → members states ≡ rules.start ∷ []
    → SumsUp rules (Contains (members states)) 0 []
sums_up-one rules states some is =
    let sums = sums_up-new rules some in
    record {
      judged = sums.judged;
      last = sums.last;
      states = λ s. (
        λ has. (sums.states s).0 ((contains_one rules.start s).0 (subst (λ (xs : List State). Contains xs s) is has)),
        λ outcome. subst (λ (xs : List State). Contains xs s) (sym is) ((contains_one rules.start s).1 ((sums.states s).1 outcome)),
      );
    }
