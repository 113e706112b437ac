-- The writer has only seen more.
use Rattle.tmw_workers.proofs.Shared.{HasOnlySeen, WriterOf}
use Rattle.tmw_workers.proofs.waits.see.Given as goal

abbrev pub invariant-loop : goal.invariant-loop
invariant-loop g l = WriterOf l.ring l.writer × HasOnlySeen l.initial.writer l.writer
