use Rattle.tmw_command.proofs.bench.bench_source.with_registers.Goals as goal

pub returns-in-Ok-clause-needed : goal.returns-in-Ok-clause-needed
returns-in-Ok-clause-needed c =
    rw (c.in-Ok.ensures.same_registers, c.in-Ok.ensures.same_showing) c.in-Ok.ensures.needed
