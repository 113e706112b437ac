-- The set becomes that of the outcomes, if these are not too many.
use Rattle.tmw_monitor.proofs.Shared.{Contains, List, State, arith, false, members, subst, sym, true, ◌∙◌, ◌≡◌}
use Rattle.tmw_monitor.proofs.CutEnds.{first_of, none_in}
use Rattle.tmw_monitor.proofs.search_or_close.close_strictly.Goals as goal

pub returns-then-not-replace_by_outcomes-clause-tells : goal.returns-then-not-replace_by_outcomes-clause-tells
returns-then-not-replace_by_outcomes-clause-tells c events stands few =
    let room = c.requires.room in
    let same = c.copy_from.ensures.members (omega (arith, room, few)) in
    let found = rw c.if-not-replace_by_outcomes.true at (c.replace_by_outcomes.ensures.replaces events stands) in
    rw same at found.0

pub returns-then-is_empty-clause-tells : goal.returns-then-is_empty-clause-tells
returns-then-is_empty-clause-tells c events stands few =
    let room = c.requires.room in
    let same = c.copy_from.ensures.members (omega (arith, room, few)) in
    let found = rw c.if-not-replace_by_outcomes.false at (c.replace_by_outcomes.ensures.replaces events stands) in
    let none = c.is_empty.ensures.0 c.if-is_empty.true in
    (λ end is. none_in end (subst (λ (xs : List State). Contains xs end) none ((found.1 end).1 (rw same is))), none)

pub returns-clause-tells : goal.returns-clause-tells
returns-clause-tells c events stands few =
    let room = c.requires.room in
    let same = c.copy_from.ensures.members (omega (arith, room, few)) in
    let found = rw c.if-not-replace_by_outcomes.false at (c.replace_by_outcomes.ensures.replaces events stands) in
    let ends = members c.replace_by_outcomes.new.states in
    let some = first_of ends (λ empty. let bad : false ≡ true = sym c.if-is_empty.false ∙ c.is_empty.ensures.1 empty in absurd (cc)) in
    (found.0, rw same at found.1, some.0, some.1)
