use Rattle.tmw_reason.proofs.Shared.{AreSaid}
use Rattle.tmw_reason.proofs.case_search.find_each.Given as goal

abbrev pub invariant-loop-place : goal.invariant-loop-place
invariant-loop-place l = AreSaid l.all l.candidates l.place l.cases.items
