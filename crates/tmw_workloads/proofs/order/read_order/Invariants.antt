use Rattle.tmw_workloads.proofs.Shared.{number_data, take, ◌<◌}
use Rattle.tmw_workloads.proofs.Lists.{HasRead}
use Rattle.tmw_workloads.proofs.order.read_order.Given as goal

abbrev pub invariant-loop-value : goal.invariant-loop-value
invariant-loop-value l =
    HasRead number_data (λ thread. thread < l.threads) (take l.value-index l.values) l.order.items
