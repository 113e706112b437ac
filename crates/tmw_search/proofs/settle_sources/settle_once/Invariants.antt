use Rattle.tmw_search.proofs.Shared.{ChosenBy, SettledBy, ◌≤◌}
use Rattle.tmw_search.proofs.Consequences.{Passed}
use Rattle.tmw_search.proofs.settle_sources.settle_once.Given as goal

abbrev pub invariant-loop-j : goal.invariant-loop-j
invariant-loop-j l =
    Passed (λ j. 0 ≤ j) (ChosenBy l.choices) (SettledBy l.choices) (λ j. l.j ≤ j) l.fn.reach l.reach l.found
