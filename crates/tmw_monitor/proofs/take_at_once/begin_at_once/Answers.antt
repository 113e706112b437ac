-- An event that begins a transaction is quiet and leads to no cut, and the window has room for it.
use Rattle.tmw_monitor.proofs.Shared.{Begin, arith, begun-pushed, completed-within, drop, found-begun, inl, length-views_of, members, no_commit, refl, transactions, uncut-next, views_of}
use Rattle.tmw_defs.proofs.QuietProof.{left_out}
use Rattle.tmw_cuts.proofs.Moves.{asked_on}
use Rattle.tmw_monitor.proofs.AtOnce.{asked_quiet, open-fine}
use Rattle.tmw_monitor.proofs.take_at_once.begin_at_once.Goals as goal

pub returns-clause-taken : goal.returns-clause-taken
returns-clause-taken c took rules history window states keeps =
    let old = c.args.kept.now in
    let e = c.args.event in
    let rest = drop keeps.cut history in
    let next = c.requires.next in
    let asked = (found-begun rest e old.window keeps.stands next).1 in
    let count = c.count.ensures.stands rest keeps.stands in
    let free = c.if-count-bounds.false in
    open-fine rules history e old _ keeps Begin next (c.begin-place.ensures.stands rest keeps.stands next) c.begin-place.ensures.registers
    (uncut-next rest e old.window Begin keeps.stands next refl) (λ _. omega (arith, count, free, window))
    (inl (asked_quiet rules.criterion (transactions rest) e.thread.number e.kind asked)) refl
    (rw (begun-pushed rest e old.window keeps.stands next)
    (c.begin.ensures.stands (members old.states) (views_of rest) _ (omega (arith, length-views_of rest, count, c.begin-place.ensures.place, c.count.ensures.shown)) refl
    (left_out e.kind (no_commit e.kind (asked_on e.kind asked))) (λ j one. completed-within (views_of rest) j one) keeps.witness))
