-- Where none serves both, the history fits each as it is.
use Rattle.tmw_monitor.proofs.BothKeep.{apart}
use Rattle.tmw_monitor.proofs.both_monitor.BothMonitor.take_whole.Goals as goal

pub take_each-requires : goal.take_each-requires
take_each-requires c = record { room = c.requires.room; room_strictly = rw c.if-self.false at c.requires.room_strictly }

pub returns-else-self : goal.returns-else-self
returns-else-self c rules history fits = c.take_each.ensures rules history (apart rules history c.args.self.now fits c.if-self.false)
