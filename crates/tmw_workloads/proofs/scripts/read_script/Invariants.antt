use Rattle.tmw_workloads.proofs.Shared.{IsTransaction, script_of, take, transaction_data}
use Rattle.tmw_workloads.proofs.Lists.{HasRead}
use Rattle.tmw_workloads.proofs.scripts.read_script.Given as goal

abbrev pub invariant-loop-value : goal.invariant-loop-value
invariant-loop-value l =
    HasRead transaction_data (IsTransaction l.registers.number) (take l.value-index l.values) (script_of l.script)
