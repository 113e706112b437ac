-- So many handles are there, and none holds anything.
use Rattle.tmw_c.proofs.Shared.{AreEmpty, length, ◌≡◌}
use Rattle.tmw_c.proofs.close.empty_handles.Given as goal

abbrev pub invariant-loop : goal.invariant-loop
invariant-loop l = AreEmpty l.handles.items × (length l.handles.items ≡ l.counter)
