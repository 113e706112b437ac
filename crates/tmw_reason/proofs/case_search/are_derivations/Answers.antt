use Rattle.tmw_reason.proofs.Shared.{All-more, IsDerivationIn, take_all}
use Rattle.tmw_reason.proofs.case_search.are_derivations.Goals as goal

pub loop-one-preserved : goal.loop-one-preserved
loop-one-preserved c =
    let is = c.in_ok-is_derivation.ensures c.if-not-branch.false in
    All-more (IsDerivationIn c.args.judged.now) c.args.derivations.now c.loop-one.one-index c.one-item.result c.loop-one-test.true
    c.loop-one.invariant (rw c.one-item.is at is)

pub returns : goal.returns
returns c = λ all.
    let whole = take_all c.loop-one.one-index c.args.derivations.now c.loop-one-test.false in
    rw whole at c.loop-one.invariant
