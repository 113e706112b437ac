use Rattle.tmw_search.proofs.Shared.{effects, eq-eqb, eqb-true, ◌∙◌}
use Rattle.tmw_search.proofs.Branches.{branches-all, branches-with, branches-without, not-of}
use Rattle.tmw_search.proofs.search.branch_of.Goals as goal

pub returns-then-start-r-clause-branch : goal.returns-then-start-r-clause-branch
returns-then-start-r-clause-branch c =
    branches-all (effects c.args.items.now) c.args.start.now c.args.may c.args.node.now c.args.j c.args.r c.loop-left.writers c.loop-left.left _
    c.requires.reader c.requires.register c.requires.read c.requires.free c.requires.node c.loop-left-test.false
    (λ is. c.if-start-r.true ∙ c.need_at.ensures)
    (λ value none. not-of c.has_before.result (λ is. let (k, few, writes, has, apart) = c.has_before.ensures is in apart (none k few writes has)))
    c.loop-left.invariant

pub returns-else-start-r-clause-branch : goal.returns-else-start-r-clause-branch
returns-else-start-r-clause-branch c = rw c.need_at.ensures
    (branches-all (effects c.args.items.now) c.args.start.now c.args.may c.args.node.now c.args.j c.args.r c.loop-left.writers c.loop-left.left _
    c.requires.reader c.requires.register c.requires.read c.requires.free c.requires.node c.loop-left-test.false
    (eqb-true _ _) (λ value none. eq-eqb _ _ value) c.loop-left.invariant)

pub loop-left-preserved-then-may_give : goal.loop-left-preserved-then-may_give
loop-left-preserved-then-may_give c =
    branches-with c.lowest-i.result c.lowest-i.ensures.within c.lowest-i.ensures.among (c.may_give.ensures.0 c.if-may_give.true) c.loop-left.invariant

pub loop-left-preserved : goal.loop-left-preserved
loop-left-preserved c =
    branches-without c.lowest-i.result c.lowest-i.ensures.within c.lowest-i.ensures.among
    (λ is. absurd (let t = c.may_give.ensures.1 is in let f = c.if-may_give.false in cc)) c.loop-left.invariant
