-- Each handle before this place holds the recorder of its place.
use Rattle.tmw_c.proofs.Shared.{HasNumber, RecorderHandle, get_or, ℕ, ◌<◌}
use Rattle.tmw_c.proofs.close.are_in_place.Given as goal

abbrev pub invariant-loop-place : goal.invariant-loop-place
invariant-loop-place l = (place : ℕ) (fallback : RecorderHandle) → place < l.place → HasNumber place (get_or l.handles place fallback).slot.held
