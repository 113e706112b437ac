use Rattle.tmw_reason.proofs.CasesProof.{first-push}
use Rattle.tmw_reason.proofs.case_search.first_places.Goals as goal

pub loop-place-preserved : goal.loop-place-preserved
loop-place-preserved c =
    rw c.in_ok-push.ensures.items (first-push c.loop-place.place c.loop-place.places.items c.loop-place.invariant)
