use Rattle.tmw_reason.proofs.Shared.{AreFirst}
use Rattle.tmw_reason.proofs.case_search.first_places.Given as goal

abbrev pub invariant-loop-place : goal.invariant-loop-place
invariant-loop-place l = AreFirst l.place l.places.items
