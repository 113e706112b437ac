use Rattle.tmw_search.proofs.Shared.{ShowWriters, effects}
use Rattle.tmw_search.proofs.ForcedEnds.{NeedsUpto}
use Rattle.tmw_search.proofs.forced_ends.needs_of.Given as goal

abbrev pub invariant-loop-place : goal.invariant-loop-place
invariant-loop-place l = ShowWriters (effects l.items) l.committed l.writers → NeedsUpto (effects l.items) l.committed l.place l.needs
