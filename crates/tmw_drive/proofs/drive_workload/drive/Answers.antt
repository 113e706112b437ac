use Rattle.tmw_drive.proofs.Shared.{Answer, Call, Event, IsVerdict, List, length, scripts_of, subst, sym, ◌^◌, ◌≤◌}
use Rattle.tmw_defs.specs.Opaque.{zeros}
use Rattle.tmw_drive.proofs.Drives.{formed-driven, length-driven}
use Rattle.tmw_monitor.specs.Fits.{rules_of}
use Rattle.tmw_drive.proofs.drive_workload.drive.Goals as goal

pub judge-requires : goal.judge-requires
judge-requires g c =
    let workload = c.args.workload.now in
    let gives : Call → Answer → Type 0 = λ call answer. (goal.Tm-dyn g c.args.memory.now).gives c.args.memory.now.1 call answer in
    subst (λ (l : List Event). length l ≤ 2 ^ 40) (sym c.deref.ensures.value)
    (length-driven gives workload.registers.number (scripts_of workload.scripts.items) workload.order.items c.in_ok-log.log.items
    c.in_ok-log.ends.items workload.is c.in_ok-log.ensures)

pub returns-clause-formed : goal.returns-clause-formed
returns-clause-formed g c =
    let workload = c.args.workload.now in
    let gives : Call → Answer → Type 0 = λ call answer. (goal.Tm-dyn g c.args.memory.now).gives c.args.memory.now.1 call answer in
    let rules = rules_of workload.registers zeros c.args.bounds in
    let told : IsVerdict rules c.in_ok-log.log.items c.in_ok-verdict.verdict
    = subst (λ (l : List Event). IsVerdict rules l c.in_ok-verdict.verdict) c.deref.ensures.value c.in_ok-verdict.ensures
    in
    formed-driven gives rules (scripts_of workload.scripts.items) workload.order.items c.in_ok-log.log.items c.in_ok-log.ends.items
    c.in_ok-verdict.verdict workload.is c.in_ok-log.ensures told

pub returns-clause-few : goal.returns-clause-few
returns-clause-few g c =
    let workload = c.args.workload.now in
    let gives : Call → Answer → Type 0 = λ call answer. (goal.Tm-dyn g c.args.memory.now).gives c.args.memory.now.1 call answer in
    length-driven gives workload.registers.number (scripts_of workload.scripts.items) workload.order.items c.in_ok-log.log.items
    c.in_ok-log.ends.items workload.is c.in_ok-log.ensures
