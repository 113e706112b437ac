use Rattle.tmw_search.proofs.Shared.{map, view}
use Rattle.tmw_search.proofs.RootNode.{Rows}
use Rattle.tmw_search.proofs.root.order_of.Given as goal

abbrev pub invariant-loop-place : goal.invariant-loop-place
invariant-loop-place l = Rows l.mask (map view l.items) l.place l.reach l.before
