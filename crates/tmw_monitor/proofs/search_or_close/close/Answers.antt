-- The outcomes are known, or are searched.
use Rattle.tmw_monitor.proofs.Shared.{StandsFor, Window, subst, sym}
use Rattle.tmw_monitor.proofs.CutEnds.{tells-from}
use Rattle.tmw_monitor.proofs.search_or_close.close.Goals as goal

pub returns-then-close_forced-clause-tells : goal.returns-then-close_forced-clause-tells
returns-then-close_forced-clause-tells c quiet events stands cut was =
    c.close_forced.ensures.tells c.if-close_forced.true c.args.criterion quiet events stands cut was

pub returns-clause-tells : goal.returns-clause-tells
returns-clause-tells c quiet events stands cut was =
    let stays = c.close_forced.ensures in
    tells-from c.args.criterion c.args.cap quiet events c.close_searched.new.kept c.close_forced.new.kept.states c.args.kept.now.states c.close_searched.result (stays.states c.if-close_forced.false)
    (c.close_searched.ensures.tells quiet events
    (subst (λ (w : Window). StandsFor w events) (sym (stays.window c.if-close_forced.false)) stands) cut)
