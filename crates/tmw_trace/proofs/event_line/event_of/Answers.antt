use Rattle.tmw_trace.proofs.EventLines.{no_thread}
use Rattle.tmw_trace.proofs.event_line.event_of.Goals as goal

pub returns-in_default-ix_of-clause-none : goal.returns-in_default-ix_of-clause-none
returns-in_default-ix_of-clause-none c =
    λ event fits. no_thread c.args.bytes.now event c.in_default-ix_of.ensures.none
