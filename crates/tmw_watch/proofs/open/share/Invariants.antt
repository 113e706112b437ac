-- So many writers have become recorders, and the others are still to come.
use Rattle.tmw_watch.proofs.Shared.{IsNewRecorder, get_or, into_iter_items, into_iter_len, length, ℕ, ◌++◌, ◌<◌, ◌≡◌}
use Rattle.tmw_watch.proofs.open.share.Given as goal

abbrev pub invariant-loop-writer : goal.invariant-loop-writer
invariant-loop-writer l =
    (length l.recorders.items ≡ length l.yielded)
    × (l.yielded ++ into_iter_items l.writer-iterator ≡ l.fn.writers.items)
    × (into_iter_len l.writer-iterator ≡ length (into_iter_items l.writer-iterator))
    × ((place : ℕ) (fallback : _) → place < length l.recorders.items → IsNewRecorder l.ring.value place (get_or l.recorders.items place fallback))
    × ((place : ℕ) (fallback : _) → place < length l.recorders.items → (get_or l.recorders.items place fallback).ring.value ≡ l.ring.value)
