-- Before the first event nothing is shown.
use Rattle.tmw_monitor.specs.Fits.{rules_for}
use Rattle.tmw_window.proofs.last_window.LastWindow.new.Goals as goal

pub returns : goal.returns
returns c =
    let judged_by = rules_for c.args.criterion c.args.registers c.args.start c.args.bounds in
    let fits = c.in_ok-monitor.ensures.fits in record { fits = fits; shown = c.in_ok-kept.ensures judged_by fits }
