-- What was found strictly is found by opacity where that has all of it, or is searched.
use Rattle.tmw_monitor.proofs.Shared.{Opacity, arith, length, members, ◌∙◌, ◌≤◌}
use Rattle.tmw_monitor.proofs.OpaqueEnds.{opaque-fine, opaque-none}
use Rattle.tmw_monitor.proofs.CutEnds.{closes}
use Rattle.tmw_monitor.proofs.search_or_close.close_opaquely.Goals as goal

pub returns-in-NoOutcome-clause-tells : goal.returns-in-NoOutcome-clause-tells
returns-in-NoOutcome-clause-tells c quiet events stands cut was ends =
    let none = rw c.in-NoOutcome.is at ends in rw c.in-NoOutcome.is (stands, opaque-none c.args.kept.now.states events none.0)

pub returns-then-has_all-clause-tells : goal.returns-then-has_all-clause-tells
returns-then-has_all-clause-tells c quiet events stands cut was ends =
    let old = c.args.kept.now in
    let found = rw c.in-Outcome.is at ends in
    let few : length (members c.args.outcomes.now) ≤ c.args.cap = found.0 in
    let low = c.requires.cap in
    let room = old.room in
    rw c.in-Outcome.is (closes Opacity old.states c.args.outcomes.now c.args.cap quiet events _ cut
    (opaque-fine old.states c.args.outcomes.now c.args.cap events (c.has_all.ensures c.if-has_all.true c.args.cap events stands cut was found) found)
    (c.begin_window.ensures.states ∙ c.copy_from.ensures.members (omega (arith, few, low, room))) (c.begin_window.ensures.stands events stands cut)
    c.begin_window.ensures.witness)

pub returns-clause-tells : goal.returns-clause-tells
returns-clause-tells c quiet events stands cut was ends = c.close_searched.ensures.tells quiet events stands cut
