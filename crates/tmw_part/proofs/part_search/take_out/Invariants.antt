use Rattle.tmw_part.proofs.Shared.{All, IsFalse, IsNeededIn, IsPartIn, IsTrue, kept_of, length, take, ◌<◌, ◌≡◌}
use Rattle.tmw_part.proofs.part_search.take_out.Given as goal

abbrev pub invariant-loop-piece : goal.invariant-loop-piece
invariant-loop-piece l = record {
  part : IsPartIn l.search l.marks.items;
  fewer : IsTrue l.took
      → length (kept_of l.marks.items l.search.events.now) < length (kept_of l.initial.marks.items l.search.events.now);
  same : IsFalse l.took → l.marks.items ≡ l.initial.marks.items;
  needed : IsFalse l.took → All (IsNeededIn l.search l.initial.marks.items) (take l.piece-index l.pieces);
}
