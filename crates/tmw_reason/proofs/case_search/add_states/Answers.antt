use Rattle.tmw_reason.proofs.case_search.add_states.Goals as goal

pub loop-place-preserved : goal.loop-place-preserved
loop-place-preserved c = record {
  made = c.in_ok-add_state.ensures.made;
  said = λ place has. c.in_ok-add_state.ensures.said place (c.loop-place.invariant.said place has);
  once = λ once. c.in_ok-add_state.ensures.once (c.loop-place.invariant.once once);
}
