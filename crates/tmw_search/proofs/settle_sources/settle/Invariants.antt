use Rattle.tmw_search.proofs.Shared.{AllSettled, Chosen, Narrows, Passes, room, true}
use Rattle.tmw_search.proofs.settle_sources.settle.Given as goal

-- What the last pass has found, after those before it.
abbrev pub invariant-loop-reach : goal.invariant-loop-reach
invariant-loop-reach l = record {
  before : Narrows (Chosen l.choices) l.fn.reach l.was true;
  pass : Passes (Chosen l.choices) (AllSettled l.choices) l.was l.reach l.found;
}

abbrev pub decreases-loop-reach : goal.decreases-loop-reach
decreases-loop-reach l = room l.was
