use Rattle.tmw_part.proofs.Shared.{sym, ◌∙◌}
use Rattle.tmw_part.proofs.Violation.{both-needed}
use Rattle.tmw_part.proofs.part_search.try_piece.Goals as goal

pub returns-clause-needed : goal.returns-clause-needed
returns-clause-needed c =
    both-needed c.args.search.now c.args.marks.now c.args.piece.now c.try_without-2.result c.in_ok-alone.alone
    (sym c.is_some.ensures ∙ c.if-is_some.false) c.in_ok-alone.ensures.needed
    (rw (c.deref.ensures.value ∙ c.in_ok-pieces.ensures) at c.try_without-2.ensures.needed)
