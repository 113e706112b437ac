-- The workers so far have come back, and their lines are closed.
use Rattle.tmw_workers.proofs.Shared.{IsClosed, Line, Worker, get_or, into_iter_items, into_iter_len, length, map, ℕ, ◌++◌, ◌<◌, ◌≡◌, ◌≤◌}
use Rattle.tmw_workers.proofs.close_lines.close_all.Given as goal

abbrev pub invariant-loop-worker : goal.invariant-loop-worker
invariant-loop-worker l =
    (l.writers.items ≡ map (λ one. one.0.writer) l.yielded)
    × (l.stops.items ≡ map (λ one. one.1) l.yielded)
    × (l.yielded ++ into_iter_items l.worker-iterator ≡ l.fn.back.items)
    × (into_iter_len l.worker-iterator ≡ length (into_iter_items l.worker-iterator))
    × (l.place ≡ length l.yielded)
    × (length l.lines.items ≡ length l.fn.lines.items)
    × ((place : ℕ) (b : Line) → length l.yielded ≤ place → get_or l.lines.items place b ≡ get_or l.fn.lines.items place b)
    × ((place : ℕ) (a : Worker) (b : Line) → place < length l.yielded
    → IsClosed (get_or (map (λ one. one.0) l.fn.back.items) place a) (get_or l.fn.lines.items place b))
