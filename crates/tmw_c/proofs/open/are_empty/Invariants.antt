-- No handle before this place holds anything.
use Rattle.tmw_c.proofs.Shared.{None, RecorderHandle, get_or, ℕ, ◌<◌, ◌≡◌}
use Rattle.tmw_c.proofs.open.are_empty.Given as goal

abbrev pub invariant-loop-place : goal.invariant-loop-place
invariant-loop-place l = (place : ℕ) (fallback : RecorderHandle) → place < l.place → (get_or l.handles place fallback).slot.held ≡ None
