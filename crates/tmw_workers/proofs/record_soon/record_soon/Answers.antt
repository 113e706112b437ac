use Rattle.tmw_workers.proofs.Shared.{rules}
use Rattle.tmw_workers.proofs.Tries.{tried}
use Rattle.tmw_workers.proofs.record_soon.record_soon.Goals as goal

pub returns-in_default-clause-tried : goal.returns-in_default-clause-tried
returns-in_default-clause-tried c = search (rules, tried)

pub returns-in_default-2-clause-tried : goal.returns-in_default-2-clause-tried
returns-in_default-2-clause-tried c = search (rules, tried)

pub returns-then-is_given_up-clause-tried : goal.returns-then-is_given_up-clause-tried
returns-then-is_given_up-clause-tried c = search (rules, tried)

pub returns-clause-tried : goal.returns-clause-tried
returns-clause-tried c = search (rules, tried)
