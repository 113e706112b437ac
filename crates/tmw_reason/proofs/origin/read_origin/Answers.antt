use Rattle.tmw_reason.proofs.OriginsProof.{stands-one}
use Rattle.tmw_reason.proofs.Shared.{sym, ◌∙◌}
use Rattle.tmw_reason.proofs.origin.read_origin.Goals as goal

pub returns-then-not-may_count-clause-state : goal.returns-then-not-may_count-clause-state
returns-then-not-may_count-clause-state c =
    let has = rw c.get.ensures.value at c.has_value.ensures in
    stands-one c.args.states.now c.args.register.number c.args.value (sym has ∙ c.if-has_value.true)
