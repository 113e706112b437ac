-- One transaction alone is forced.
use Rattle.tmw_monitor.proofs.Shared.{sym, views_of, ◌∙◌}
use Rattle.tmw_cuts.proofs.OneEventMore.{length-views_of}
use Rattle.tmw_search.proofs.OneEnd.{one-forced}
use Rattle.tmw_monitor.proofs.take_at_once.has_one_end.Goals as goal

pub returns-then-count-eq1 : goal.returns-then-count-eq1
returns-then-count-eq1 c one events stands =
    one-forced (views_of events) c.args.place.number (length-views_of events ∙ sym (c.count.ensures.stands events stands) ∙ c.if-count-eq1.true)

pub returns-else-count-eq1 : goal.returns-else-count-eq1
returns-else-count-eq1 c forced events stands = rw (c.transactions.ensures.stands events stands) at (c.is_forced_with.ensures forced)
