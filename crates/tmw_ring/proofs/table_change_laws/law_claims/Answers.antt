use Rattle.tmw_ring.proofs.Shared.{rules}
use Rattle.tmw_ring.proofs.RunLawsProof.{claim_law, not_ready_law, front_law, silent_law}
use Rattle.tmw_ring.proofs.table_change_laws.law_claims.Goals as goal

pub returns : goal.returns
returns g c = search (rules, claim_law, not_ready_law, front_law, silent_law)
