use Rattle.tmw_c.proofs.OneKind.{one_kind}
use Rattle.tmw_c.proofs.TurnsMalformed.{never_malformed_closed}
use Rattle.tmw_c.proofs.laws.law_recorded.Goals as goal

pub returns : goal.returns
returns c = record { one_kind = one_kind; formed = never_malformed_closed }
