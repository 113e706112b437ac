use Rattle.tmw_part.proofs.Shared.{All, IsFalse, IsNeededIn, IsPartIn, if◌then◌else◌, kept_of, length, ◌+◌}
use Rattle.tmw_part.proofs.part_search.take_all_out.Given as goal

abbrev pub invariant-loop-took : goal.invariant-loop-took
invariant-loop-took l = record {
  part : IsPartIn l.search l.marks.items;
  needed : IsFalse l.took → All (IsNeededIn l.search l.marks.items) l.pieces.items;
}

abbrev pub decreases-loop-took : goal.decreases-loop-took
decreases-loop-took l = length (kept_of l.marks.items l.search.events.now) + (if l.took then 1 else 0)
