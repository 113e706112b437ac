use Rattle.tmw_search.proofs.Shared.{effects}
use Rattle.tmw_search.proofs.ReadSteps.{ReadBy}
use Rattle.tmw_search.proofs.read_consequences.read_by.Given as goal

abbrev pub invariant-loop-left : goal.invariant-loop-left
invariant-loop-left l = ReadBy (effects l.items) l.start l.may l.j l.left l.fn.node l.node

abbrev pub decreases-loop-left : goal.decreases-loop-left
decreases-loop-left l = l.left
