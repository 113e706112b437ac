-- No outcome is a violation, and else the set becomes that of the outcomes.
use Rattle.tmw_monitor.proofs.Shared.{Contains, List, State, false, members, subst, sym, true, ◌∙◌, ◌≡◌}
use Rattle.tmw_monitor.proofs.CutEnds.{closes, first_of, none_in}
use Rattle.tmw_monitor.proofs.search_or_close.close_searched.Goals as goal

pub returns-then-is_empty-clause-tells : goal.returns-then-is_empty-clause-tells
returns-then-is_empty-clause-tells c quiet events stands cut =
    let found = rw c.if-not-replace_by_outcomes.false at (c.replace_by_outcomes.ensures.replaces events stands) in
    (stands, λ end is. none_in end (subst (λ (xs : List State). Contains xs end) (c.is_empty.ensures.0 c.if-is_empty.true) ((found.1 end).1 is)))

pub returns-clause-tells : goal.returns-clause-tells
returns-clause-tells c quiet events stands cut =
    let found = rw c.if-not-replace_by_outcomes.false at (c.replace_by_outcomes.ensures.replaces events stands) in
    let ends = members c.replace_by_outcomes.new.states in
    let (end, some) = first_of ends (λ empty. let bad : false ≡ true = sym c.if-is_empty.false ∙ c.is_empty.ensures.1 empty in absurd (cc)) in
    closes c.args.criterion c.args.kept.now.states c.replace_by_outcomes.new.states c.args.cap quiet events _ cut (found.0, found.1, end, some)
    c.begin_window.ensures.states (c.begin_window.ensures.stands events stands cut) c.begin_window.ensures.witness
