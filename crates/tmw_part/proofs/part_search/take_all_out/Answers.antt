use Rattle.tmw_part.proofs.Shared.{All, Bool, IsNeededIn, List, subst, sym, ◌≡◌}
use Rattle.tmw_part.proofs.part_search.take_all_out.Goals as goal

pub loop-took-preserved : goal.loop-took-preserved
loop-took-preserved c = record {
  part = c.in_ok-took.ensures.part;
  needed = λ none.
      let (same, needed) = c.in_ok-took.ensures.needed none in
      let stays : c.take_out.new.marks.items ≡ c.loop-took.marks.items = same in
      subst (λ (marks : List Bool). All (IsNeededIn c.args.search.now marks) c.in_ok-pieces.pieces.items) (sym stays)
      (rw c.deref.ensures.value at needed);
}

pub returns : goal.returns
returns c = record {
  is = c.loop-took.invariant.part;
  minimal = rw c.in_ok-pieces.ensures at (c.loop-took.invariant.needed c.loop-took-test.false);
}
