use Rattle.tmw_reason.proofs.Shared.{refl}
use Rattle.tmw_reason.proofs.case_search.find_case.Goals as goal

pub returns : goal.returns
returns c =
    let made = rw c.in-Some.is at c.in_ok-derivations.ensures.made in
    (refl, rw (← c.all.view_is) (rw (c.deref-2.ensures.value, c.in_ok-states.ensures, c.deref.ensures.value) at made))

pub returns-in_default : goal.returns-in_default
returns-in_default c =
    let none = rw c.in_default.is at c.in_ok-derivations.ensures.none in
    rw (← c.all.view_is) (rw (c.deref-2.ensures.value, c.in_ok-states.ensures, c.deref.ensures.value) at none)
