use Rattle.tmw_workloads.proofs.Shared.{IsScript, script_data, scripts_of, take}
use Rattle.tmw_workloads.proofs.Lists.{HasRead}
use Rattle.tmw_workloads.proofs.scripts.read_scripts.Given as goal

abbrev pub invariant-loop-value : goal.invariant-loop-value
invariant-loop-value l =
    HasRead script_data (IsScript l.registers.number) (take l.value-index l.values) (scripts_of l.scripts.items)
