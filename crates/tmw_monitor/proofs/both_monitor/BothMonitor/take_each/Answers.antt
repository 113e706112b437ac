-- The event is fed to each.
use Rattle.tmw_monitor.proofs.Shared.{Opacity, Strict, [], by, ◌++◌, ◌∷◌}
use Rattle.tmw_monitor.proofs.both_monitor.BothMonitor.take_each.Goals as goal

pub returns : goal.returns
returns c rules history each = c.join.ensures rules (history ++ c.args.event ∷ []) (record {
  opacity = c.take.ensures.feeds (by Opacity rules) history each.opacity;
  strict = c.take-2.ensures.feeds (by Strict rules) history each.strict;
})
