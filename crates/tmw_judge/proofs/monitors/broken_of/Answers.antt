-- The monitor by opacity tells it for both criteria.
use Rattle.tmw_judge.proofs.Shared.{FitMonitors, subst, trace_rules}
use Rattle.tmw_defs.specs.declared.criterion.Criterion.TheVariants as by
use Rattle.tmw_judge.proofs.monitors.broken_of.Goals as goal

pub returns-in-Both : goal.returns-in-Both
returns-in-Both c header bounds asked history fed =
    c.broken.ensures (trace_rules header bounds by.Opacity) history (subst (FitMonitors header bounds history) c.in-Both.is fed.each)
