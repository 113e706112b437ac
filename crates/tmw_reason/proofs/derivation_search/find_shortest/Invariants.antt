use Rattle.tmw_reason.proofs.Shared.{All, IfNone, IfSome, IsFalse, IsMadeFrom, contradicts_in, take, ◌≡◌}
use Rattle.tmw_reason.proofs.derivation_search.find_shortest.Given as goal

abbrev pub invariant-loop-end : goal.invariant-loop-end
invariant-loop-end l = record {
  made : IfSome l.best (IsMadeFrom l.judged l.candidates l.assumed);
  none : l.assumed ≡ 0 → IfNone l.best (All (λ end. IsFalse (contradicts_in l.judged l.steps end)) (take l.end-index l.candidates.ends.items));
}
