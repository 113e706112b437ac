-- The workers so far have gone to their threads.
use Rattle.tmw_workers.proofs.Shared.{IsPromised, calls_of, get_or, into_iter_items, into_iter_len, length, scripts_of, ℕ, ◌++◌, ◌<◌, ◌≡◌}
use Rattle.tmw_workers.proofs.threads.start_all.Given as goal

abbrev pub invariant-loop-worker : goal.invariant-loop-worker
invariant-loop-worker g l =
    (length l.handles.items ≡ length l.yielded)
    × (l.yielded ++ into_iter_items l.worker-iterator ≡ l.fn.workers.items)
    × (into_iter_len l.worker-iterator ≡ length (into_iter_items l.worker-iterator))
    × (l.place ≡ length l.yielded)
    × ((place : ℕ) (fallback : _) → place < length l.handles.items
    → IsPromised l.fn.stage.ring.now (scripts_of l.fn.stage.scripts.now) l.fn.workers.items place (get_or l.handles.items place fallback).promise.ring.now
    (calls_of (get_or l.handles.items place fallback).promise.script.now) (get_or l.handles.items place fallback).promise.before.value)
