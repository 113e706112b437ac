use Rattle.tmw_kept.proofs.Shared.{length, ◌++◌, ◌+◌, ◌≡◌}
use Rattle.tmw_kept.specs.Pieces.{calls_from}
use Rattle.tmw_kept.proofs.piece.calls.Given as goal

abbrev pub invariant-loop-rest : goal.invariant-loop-rest
invariant-loop-rest l = record {
  same : l.calls.items ++ calls_from l.place l.rest ≡ calls_from 0 l.events;
  count : l.place + length l.rest ≡ length l.events;
}

abbrev pub decreases-loop-rest : goal.decreases-loop-rest
decreases-loop-rest l = length l.rest
