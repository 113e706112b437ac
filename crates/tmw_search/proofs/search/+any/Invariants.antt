use Rattle.tmw_search.proofs.Shared.{effects, opens, room, ◌+◌}
use Rattle.tmw_search.proofs.Branches.{Tries}
use Rattle.tmw_search.proofs.search.+any.Given as goal

abbrev pub decreases-any : goal.decreases-any
decreases-any l = room l.node.now.reach + opens l.node.now.choices

abbrev pub invariant-loop-left : goal.invariant-loop-left
invariant-loop-left l = Tries (effects l.items) l.start l.may l.next l.j l.r l.left

abbrev pub decreases-loop-left : goal.decreases-loop-left
decreases-loop-left l = l.left
