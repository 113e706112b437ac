use Rattle.tmw_reason.proofs.Shared.{flat_map, option_to_list, slice_get, take, ◌≡◌}
use Rattle.tmw_reason.proofs.case_search.states_at.Given as goal

abbrev pub invariant-loop-place : goal.invariant-loop-place
invariant-loop-place l =
    l.chosen.items ≡ flat_map (λ place. option_to_list (slice_get l.states place)) (take l.place-index l.places)
