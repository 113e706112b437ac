use Rattle.tmw_workloads.proofs.Shared.{FitsKind, call_data, take}
use Rattle.tmw_workloads.proofs.Lists.{HasRead}
use Rattle.tmw_workloads.proofs.transaction.read_transaction.Given as goal

abbrev pub invariant-loop-value : goal.invariant-loop-value
invariant-loop-value l = HasRead call_data FitsKind (take l.value-index l.values) l.calls.items
