use Rattle.tmw_search.proofs.Shared.{In, IsTrue, effects, get_or, idle, ℕ, ◌<◌}
use Rattle.tmw_search.proofs.root.all_agree.Given as goal

abbrev pub invariant-loop-left : goal.invariant-loop-left
invariant-loop-left l =
    ((j : ℕ) → j < 8 → In l.left j → In l.mask j)
    × ((j : ℕ) → j < 8 → In l.mask j → (In l.left j → ⊥) → IsTrue (get_or (effects l.items) j idle).agrees)

abbrev pub decreases-loop-left : goal.decreases-loop-left
decreases-loop-left l = l.left
