use Rattle.tmw_reason.proofs.case_search.refute_at.Goals as goal

pub returns : goal.returns
returns c = λ is.
    rw (← c.all.view_is) (record {
      are = rw (c.deref.ensures.value, c.in_ok-states.ensures) at (c.in_ok-are_derivations.ensures c.if-not-branch.false);
      refute = rw (c.deref.ensures.value, c.in_ok-states.ensures) at (c.in_ok-refute.ensures is);
    })
