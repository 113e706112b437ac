use Rattle.tmw_part.proofs.Shared.{Bool, FailsIn, List, inl, inr, subst, sym, ◌∙◌}
use Rattle.tmw_part.proofs.Fewer.{length-without, fewer-kept, same-marks}
use Rattle.tmw_part.proofs.part_search.try_without.Goals as goal

pub returns-then-eq-clause-needed : goal.returns-then-eq-clause-needed
returns-then-eq-clause-needed c =
    let same = (same-marks c.as_slice.result.now c.args.marks.now).0 (sym c.eq.ensures ∙ c.if-eq.true) in
    inl (sym c.in_ok-left.ensures ∙ sym c.as_slice.ensures.value ∙ same)

pub is_violated_part-requires-clause-each : goal.is_violated_part-requires-clause-each
is_violated_part-requires-clause-each c =
    rw (c.deref.ensures.value, c.in_ok-left.ensures)
    (length-without c.args.pieces.now c.args.marks.now c.args.search.now.events.now c.requires.each)

pub returns-then-not-branch-clause-needed : goal.returns-then-not-branch-clause-needed
returns-then-not-branch-clause-needed c =
    inr (subst (λ (marks : List Bool). FailsIn c.args.search.now marks) (c.deref.ensures.value ∙ c.in_ok-left.ensures)
    (c.in_ok-is_violated_part.ensures.fails c.if-not-branch.true))

pub returns-clause-fewer : goal.returns-clause-fewer
returns-clause-fewer c =
    fewer-kept c.args.pieces.now c.args.marks.now c.in_ok-left.left.items c.args.search.now.events.now c.requires.each c.in_ok-left.ensures
    (rw c.as_slice.ensures.value at (sym c.eq.ensures ∙ c.if-eq.false))
