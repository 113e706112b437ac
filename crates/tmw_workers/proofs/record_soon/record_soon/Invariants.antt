-- So far the writer has recorded nothing.
use Rattle.tmw_workers.proofs.Shared.{HasWaited, WriterOf}
use Rattle.tmw_workers.proofs.record_soon.record_soon.Given as goal

abbrev pub invariant-loop : goal.invariant-loop
invariant-loop l = WriterOf l.ring l.writer × HasWaited l.fn.writer l.writer
