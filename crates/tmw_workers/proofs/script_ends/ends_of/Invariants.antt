-- The endings so far.
use Rattle.tmw_workers.proofs.Shared.{ending_of, map, take, ◌≡◌}
use Rattle.tmw_workers.proofs.script_ends.ends_of.Given as goal

abbrev pub invariant-loop-stop : goal.invariant-loop-stop
invariant-loop-stop l = l.ends.items ≡ map ending_of (take l.stop-index l.stops)
