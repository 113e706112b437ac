-- One serves both where they agree.
use Rattle.tmw_monitor.proofs.BothKeep.{joined}
use Rattle.tmw_monitor.proofs.both_monitor.BothMonitor.join.Goals as goal

pub returns : goal.returns
returns c rules history each = joined rules history c.args.self.now c.agree-self.result each c.agree-self.ensures.0
