use Rattle.tmw_defs.proofs.CriteriaLawProof.{criteria_law}
use Rattle.tmw_defs.proofs.criteria_law.law_criteria.Goals as goal

pub returns : goal.returns
returns c = criteria_law
