use Rattle.tmw_reason.proofs.Shared.{find, is_news, length, ◌≡◌}
use Rattle.tmw_reason.proofs.step_closure.find_step.Given as goal

abbrev pub invariant-loop-rest : goal.invariant-loop-rest
invariant-loop-rest l = find (is_news l.judged l.steps) l.rest ≡ find (is_news l.judged l.steps) l.candidates

abbrev pub decreases-loop-rest : goal.decreases-loop-rest
decreases-loop-rest l = length l.rest
