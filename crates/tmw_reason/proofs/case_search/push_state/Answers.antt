use Rattle.tmw_reason.proofs.Shared.{append-nil, ltb-false, slice_get_past, sym}
use Rattle.tmw_reason.proofs.case_search.push_state.Goals as goal

pub returns-in_default : goal.returns-in_default
returns-in_default c =
    let beyond = ltb-false _ _ (sym c.in_default.ensures.lookup.0) in
    rw (slice_get_past c.args.states.now c.args.place beyond) (sym (append-nil c.args.chosen.now.items))
