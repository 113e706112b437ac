use Rattle.tmw_reason.proofs.Shared.{None, answered_at, drop, ◌≡◌}
use Rattle.tmw_reason.proofs.origin.answered_at.Given as goal

abbrev pub invariant-loop-call : goal.invariant-loop-call
invariant-loop-call l =
    answered_at l.register.number l.value l.expected l.known (drop l.call-index l.calls)
    ≡ answered_at l.register.number l.value l.expected None l.calls
