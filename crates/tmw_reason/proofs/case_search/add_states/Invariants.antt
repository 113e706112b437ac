use Rattle.tmw_reason.proofs.Shared.{Grows}
use Rattle.tmw_reason.proofs.case_search.add_states.Given as goal

abbrev pub invariant-loop-place : goal.invariant-loop-place
invariant-loop-place l = Grows l.all l.candidates l.others l.initial.case l.case
