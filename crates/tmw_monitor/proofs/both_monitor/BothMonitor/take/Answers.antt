-- What was taken at once is fine by both criteria. What was not is kept as before.
use Rattle.tmw_monitor.proofs.Shared.{Opacity, Strict, by}
use Rattle.tmw_monitor.proofs.BothKeep.{both-kept, both-next, keeps-one, keeps-strictly}
use Rattle.tmw_monitor.proofs.both_monitor.BothMonitor.take.Goals.{else-self-via-then-self+then-is_known+else-take_at_once, else-self-via-then-self+else-is_known, else-self-via-else-self}
use Rattle.tmw_monitor.proofs.both_monitor.BothMonitor.take.Goals as goal

pub returns-then-take_at_once : goal.returns-then-take_at_once
returns-then-take_at_once c rules history fits =
    let old = c.args.self.now in
    let took = c.take_at_once.ensures.taken c.if-take_at_once.true in
    both-next rules history c.args.event old c.take_at_once.new.kept fits c.if-self.true
    (took (by Opacity rules) history fits.opacity.window fits.opacity.states (keeps-one rules history old fits c.if-self.true))
    (took (by Strict rules) history fits.opacity.window fits.opacity.states (keeps-strictly rules history old fits c.if-self.true))

pub returns : goal.returns
returns c rules history fits = c.take_whole.ensures rules history (elim c.else-self.branch [
  | else-self-via-then-self+then-is_known+else-take_at_once w ↦
      rw w.self-is (both-kept rules history c.args.self.now w.take_at_once.new.kept fits w.if-self.true
      (w.take_at_once.ensures.left w.if-take_at_once.false))
  | else-self-via-then-self+else-is_known w ↦ rw w.self-is fits
  | else-self-via-else-self w ↦ rw w.self-is fits
])
