use Rattle.tmw_reason.proofs.Shared.{AreAmong, IsContradictedIn, IsFalse, IsNeededEachIn, if◌then◌else◌, length, ◌+◌}
use Rattle.tmw_reason.proofs.prune_steps.prune.Given as goal

abbrev pub invariant-loop-more : goal.invariant-loop-more
invariant-loop-more l = record {
  is : IsContradictedIn l.judged l.assumed l.end l.kept.items;
  among : AreAmong l.steps l.kept.items;
  needed : IsFalse l.more → IsNeededEachIn l.judged l.assumed l.end l.kept.items;
}

abbrev pub decreases-loop-more : goal.decreases-loop-more
decreases-loop-more l = if l.more then length l.kept.items + 1 else 0
