use Rattle.tmw_reason.proofs.Shared.{AreFirst, arith, length, ◌<◌}
use Rattle.tmw_reason.proofs.CasesProof.{said-whole}
use Rattle.tmw_reason.proofs.case_search.find_cases.Goals as goal

pub returns-in-Some : goal.returns-in-Some
returns-in-Some c =
    let found = rw c.in-Some.is at c.in_ok-case.ensures in
    let several : 1 < length c.args.all.now.states = rw (← c.all.view_is) c.if-all-gt1.true in
    let first : AreFirst (length c.args.all.now.states) c.in_ok-places.places.items = rw (← c.all.view_is) c.in_ok-places.ensures in
    rw (c.in_ok-push.ensures.items, c.new-cases.ensures.items)
    (said-whole c.args.all.now c.args.candidates.now c.in-Some.case (omega (arith, several)) (rw (← found.0) at first) found.1)
