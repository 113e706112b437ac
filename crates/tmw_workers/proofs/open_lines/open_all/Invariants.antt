-- The writers so far have their workers.
use Rattle.tmw_workers.proofs.Shared.{IsOpened, Line, Worker, WriterIs, get_or, into_iter_items, into_iter_len, length, ℕ, ◌++◌, ◌<◌, ◌≡◌}
use Rattle.tmw_workers.proofs.open_lines.open_all.Given as goal

abbrev pub invariant-loop-writer : goal.invariant-loop-writer
invariant-loop-writer l =
    (length l.workers.items ≡ length l.yielded)
    × (length l.lines.items ≡ length l.yielded)
    × (l.yielded ++ into_iter_items l.writer-iterator ≡ l.fn.writers.items)
    × (into_iter_len l.writer-iterator ≡ length (into_iter_items l.writer-iterator))
    × ((place : ℕ) (a : WriterIs) (b : Worker) (c : Line) → place < length l.yielded
    → IsOpened (get_or l.fn.writers.items place a) (get_or l.workers.items place b) (get_or l.lines.items place c))
