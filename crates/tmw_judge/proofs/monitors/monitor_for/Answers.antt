use Rattle.tmw_judge.proofs.Shared.{rules}
use Rattle.tmw_judge.proofs.monitors.monitor_for.Goals as goal

pub returns : goal.returns
returns c = search rules
