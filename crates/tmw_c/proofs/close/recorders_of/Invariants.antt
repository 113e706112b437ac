-- So many handles have given what they held, and the others are still to come.
use Rattle.tmw_c.proofs.Shared.{AreHeld, into_iter_items, into_iter_len, length, vec_capacity, vec_len, ◌++◌, ◌+◌, ◌≡◌, ◌≤◌}
use Rattle.tmw_c.proofs.close.recorders_of.Given as goal

abbrev pub invariant-loop-handle : goal.invariant-loop-handle
invariant-loop-handle l =
    AreHeld l.recorders.items l.yielded
    × (l.yielded ++ into_iter_items l.handle-iterator ≡ l.fn.handles.items)
    × (into_iter_len l.handle-iterator ≡ length (into_iter_items l.handle-iterator))
    × (vec_len l.recorders + into_iter_len l.handle-iterator ≤ vec_capacity l.recorders)
