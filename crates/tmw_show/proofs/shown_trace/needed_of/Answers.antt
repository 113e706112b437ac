use Rattle.tmw_show.proofs.shown_trace.needed_of.Goals as goal

pub returns-in_ok-reason-in-Violated : goal.returns-in_ok-reason-in-Violated
returns-in_ok-reason-in-Violated c =
    let part = rw c.deref.ensures.value at c.in_ok-marks-in-Violated.ensures in
    let reason = rw (
      c.deref-in-Violated.ensures.value,
      c.deref-in-Violated-2.ensures.value,
      c.states-states.ensures.members,
    ) at c.in_ok-reason-in-Violated.ensures in
    (c.if-not-why.false, (_, c.in-Violated.is), part, reason)
