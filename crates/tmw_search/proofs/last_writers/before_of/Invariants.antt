use Rattle.tmw_search.proofs.LastWriters.{FindsBefore}
use Rattle.tmw_search.proofs.last_writers.before_of.Given as goal

abbrev pub invariant-loop-place : goal.invariant-loop-place
invariant-loop-place l = FindsBefore l.reach l.these l.place l.before
