-- Where the lock was free at the first snapshot, it was free at each that came after it.
use Rattle.std.proofs.Common.{◌≡◌, ◌%◌}
use Rattle.tmw_memories.proofs.norec.NoRec.take_lock.Given as goal

abbrev pub invariant-loop : goal.invariant-loop
invariant-loop l = l.tx.snapshot % 2 ≡ 0 → l.snapshot % 2 ≡ 0
