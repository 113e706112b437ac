use Rattle.tmw_defs.proofs.QuietLaws.{quiet_law}
use Rattle.tmw_defs.proofs.quiet_law.law_2.Goals as goal

pub returns : goal.returns
returns c = quiet_law
