use Rattle.tmw_search.proofs.Shared.{Adds, MakesAt, map, true, view}
use Rattle.tmw_search.proofs.AddMembers.{OfFirst}
use Rattle.tmw_search.proofs.layer_steps.push_nexts.Given as goal

abbrev pub invariant-loop-place : goal.invariant-loop-place
invariant-loop-place l = Adds true l.fn.nexts.items l.nexts.items (OfFirst (MakesAt (map view l.items) l.reached) l.place)
