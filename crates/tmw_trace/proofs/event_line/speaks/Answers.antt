use Rattle.tmw_trace.proofs.Shared.{rules}
use Rattle.tmw_trace.proofs.event_line.speaks.Goals as goal

pub returns-in-One-N : goal.returns-in-One-N
returns-in-One-N c = search rules
