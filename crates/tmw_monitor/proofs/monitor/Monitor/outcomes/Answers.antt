-- The set's states are the outcomes at the last cut, and none where nothing is kept.
use Rattle.tmw_monitor.proofs.OnlyOpen.{last_outcomes}
use Rattle.tmw_monitor.proofs.monitor.Monitor.outcomes.Goals as goal

pub returns-clause-last : goal.returns-clause-last
returns-clause-last c rules history fits fine =
    last_outcomes rules history c.args.self.now.kept (fits.keeps fine)
