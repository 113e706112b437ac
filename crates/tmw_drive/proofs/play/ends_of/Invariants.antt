-- The endings of the players so far.
use Rattle.tmw_drive.proofs.Shared.{Ending, IsEnding, Player, get_or, left_of, length, next_of, script_at, scripts_of, ℕ, ◌<◌, ◌≡◌}
use Rattle.tmw_drive.proofs.play.ends_of.Given as goal

abbrev pub invariant-loop-place : goal.invariant-loop-place
invariant-loop-place l =
    (length l.ends.items ≡ l.place)
    × ((thread : ℕ) (fallback : Ending) → thread < length l.ends.items → (player : Player)
    → IsEnding (next_of (left_of (script_at (scripts_of l.scripts) thread) (get_or l.players thread player))) (get_or l.ends.items thread fallback))
