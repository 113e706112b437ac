-- The transactions so far are copied.
use Rattle.tmw_cuts.proofs.Shared.{length, map, take, view, ◌≡◌}
use Rattle.tmw_cuts.proofs.window.copy_txns.Given as goal

abbrev pub invariant-loop-place : goal.invariant-loop-place
invariant-loop-place l = (map view (take l.place l.copied) ≡ map view (take l.place l.fn.slots)) × (length l.copied ≡ 8)
