-- The workload that was read was carried out, and its log has the header; or it was not, by the fault that is answered.
use Rattle.tmw_command.proofs.Shared.{IsBenched, scripts_of, subst, sym, text_over}
use Rattle.tmw_command.proofs.BenchAnswers.{right-bench}
use Rattle.tmw_bench.specs.declared.bench_result.BenchResult.{BenchResult}
use Rattle.tmw_command.proofs.bench.bench_source.bench_source.Goals as goal

pub returns-in-Ok-clause-right : goal.returns-in-Ok-clause-right
returns-in-Ok-clause-right g c =
    let told = c.in_ok-workload.ensures.right in
    let workload = c.in_ok-workload.workload in (
      told.0,
      told.1,
      (
        told.2.0,
        record {
          registers = workload.registers;
          enough = c.in-Ok.ensures.enough;
          workload = text_over workload told.0 told.2.1;
          header = c.with_header.ensures.header;
          benched = subst (λ (b : BenchResult). IsBenched (λ call answer. (goal.Tm-dyn g c.args.memory.now).gives c.args.memory.now.1 call answer)
              workload.registers (scripts_of workload.scripts.items) c.args.settings b) (sym c.with_header.ensures.same) c.in-Ok.ensures.ok;
        },
      ),
    )

pub returns-clause-right : goal.returns-clause-right
returns-clause-right g c =
    let told = c.in_ok-workload.ensures.right in
    rw c.fault_of.ensures (told.0, told.1, right-bench _ _ _ told.0 c.in_ok-workload.workload c.in-Err.fault told.2.0 told.2.1 c.in-Err.ensures.err)
