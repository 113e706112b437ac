-- Both stand for no event.
use Rattle.tmw_monitor.proofs.Shared.{[], rules_of}
use Rattle.tmw_monitor.proofs.both_monitor.BothMonitor.new.Goals as goal

pub returns : goal.returns
returns c = c.join.ensures (rules_of c.args.registers c.args.start c.args.bounds) []
    (record { opacity = c.in_ok-opacity.ensures.fits; strict = c.in_ok-strict.ensures.fits })
