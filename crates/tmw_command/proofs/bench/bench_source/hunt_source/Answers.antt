-- The workload that was read was carried out, or it was not, by the fault that is answered.
use Rattle.tmw_command.proofs.Shared.{memory_is}
use Rattle.tmw_command.proofs.BenchAnswers.{hunted-answers, right-bench}
use Rattle.tmw_command.proofs.bench.bench_source.hunt_source.Goals as goal

pub returns-in-Ok-clause-right : goal.returns-in-Ok-clause-right
returns-in-Ok-clause-right g c =
    let told = c.in_ok-workload.ensures.right in
    let tm = goal.Tm-dyn g c.args.memory.now in (
      told.0,
      told.1,
      hunted-answers (memory_is (tm.has c.args.memory.now.1) (λ call answer. tm.gives c.args.memory.now.1 call answer)) c.in_ok-workload.workload
          _ _ told.0 c.in-Ok.hunted _ told.2.0 told.2.1 c.in-Ok.ensures.enough c.in-Ok.ensures.ok c.with_registers.ensures.registers
          c.with_registers.ensures.same c.with_registers.ensures.needed c.with_registers.ensures.memory,
    )

pub returns-clause-right : goal.returns-clause-right
returns-clause-right g c =
    let told = c.in_ok-workload.ensures.right in
    rw c.fault_of.ensures (told.0, told.1, right-bench _ _ _ told.0 c.in_ok-workload.workload c.in-Err.fault told.2.0 told.2.1 c.in-Err.ensures.err)
