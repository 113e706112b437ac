use Rattle.tmw_search.proofs.Shared.{map, view}
use Rattle.tmw_search.proofs.SameEnds.{FirstUpto}
use Rattle.tmw_search.proofs.same_ends.are_free.Given as goal

abbrev pub invariant-loop-place : goal.invariant-loop-place
invariant-loop-place l = FirstUpto l.committed (map view l.items) l.starts l.place
