use Rattle.tmw_show.proofs.Shared.{last_thread, length, max, ◌<◌, ◌≡◌}
use Rattle.tmw_show.proofs.window_text.last_thread.Given as goal

abbrev pub invariant-loop-rest : goal.invariant-loop-rest
invariant-loop-rest l = (max l.last (last_thread l.rest) ≡ last_thread l.events) × (l.last < 8)

abbrev pub decreases-loop-rest : goal.decreases-loop-rest
decreases-loop-rest l = length l.rest
