use Rattle.tmw_monitor.proofs.Shared.{sym, ◌∙◌}
use Rattle.tmw_monitor.proofs.FirstBroken.{broken-here, followed-stays, follows-still}
use Rattle.tmw_monitor.proofs.broken_rule.follow.Goals as goal

pub returns-then-is_some-clause-tells : goal.returns-then-is_some-clause-tells
returns-then-is_some-clause-tells c registers history at told =
    followed-stays registers history c.args.event c.args.window.now c.args.broken.now (sym c.is_some.ensures ∙ c.if-is_some.true) told

pub returns-in-Err-clause-tells : goal.returns-in-Err-clause-tells
returns-in-Err-clause-tells c registers history at told =
    let (none, follows) = follows-still registers history c.args.window.now c.args.broken.now
    (sym c.is_some.ensures ∙ c.if-is_some.false) told in
    broken-here registers history c.args.event c.args.at c.in-Err.rule c.args.window.now at follows
    (c.in-Err.ensures.err registers history follows)
