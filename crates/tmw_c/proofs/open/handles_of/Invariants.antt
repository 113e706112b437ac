-- So many recorders are held by as many handles, and the others are still to come.
use Rattle.tmw_c.proofs.Shared.{AreHandlesOf, into_iter_items, into_iter_len, length, vec_capacity, vec_len, ◌++◌, ◌+◌, ◌≡◌, ◌≤◌}
use Rattle.tmw_c.proofs.open.handles_of.Given as goal

abbrev pub invariant-loop-recorder : goal.invariant-loop-recorder
invariant-loop-recorder l =
    AreHandlesOf l.registers l.yielded l.handles.items
    × (l.yielded ++ into_iter_items l.recorder-iterator ≡ l.fn.recorders.items)
    × (into_iter_len l.recorder-iterator ≡ length (into_iter_items l.recorder-iterator))
    × (vec_len l.handles + into_iter_len l.recorder-iterator ≤ vec_capacity l.handles)
