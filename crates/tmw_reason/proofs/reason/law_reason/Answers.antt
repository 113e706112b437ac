use Rattle.tmw_reason.proofs.EventsProof.{reason_tells}
use Rattle.tmw_reason.proofs.StepsProof.{reason_law}
use Rattle.tmw_reason.proofs.reason.law_reason.Goals as goal

pub returns-clause-steps : goal.returns-clause-steps
returns-clause-steps c = reason_law

pub returns-clause-events : goal.returns-clause-events
returns-clause-events c = reason_tells
