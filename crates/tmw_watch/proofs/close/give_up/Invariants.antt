-- The writers of so many recorders are there, and room for those of the others.
use Rattle.tmw_watch.proofs.Shared.{into_iter_items, into_iter_len, length, vec_capacity, vec_len, writers_of, ◌++◌, ◌+◌, ◌≡◌, ◌≤◌}
use Rattle.tmw_watch.proofs.close.give_up.Given as goal

abbrev pub invariant-loop-recorder : goal.invariant-loop-recorder
invariant-loop-recorder l =
    (l.writers.items ≡ l.fn.writers.items ++ writers_of l.yielded)
    × (l.yielded ++ into_iter_items l.recorder-iterator ≡ l.fn.recorders.items)
    × (into_iter_len l.recorder-iterator ≡ length (into_iter_items l.recorder-iterator))
    × (vec_len l.writers + into_iter_len l.recorder-iterator ≤ vec_capacity l.writers)
