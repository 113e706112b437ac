use Rattle.tmw_judge.proofs.Shared.{rules}
use Rattle.tmw_judge.proofs.monitors.monitors_for.Goals as goal

pub returns-in_ok-strict-in-Strict : goal.returns-in_ok-strict-in-Strict
returns-in_ok-strict-in-Strict c = search rules
