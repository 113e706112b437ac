use Rattle.tmw_search.proofs.Shared.{eqb-true, refl, slice_index}
use Rattle.tmw_search.proofs.Branches.{never-true}
use Rattle.tmw_search.proofs.ReadSteps.{alone, follows-alone, follows-never, kept-left}
use Rattle.tmw_search.proofs.read_consequences.read_one.Goals as goal

pub returns-then-node-r-eq0 : goal.returns-then-node-r-eq0
returns-then-node-r-eq0 c = record {
  follows = rw c.need_at.ensures
      (follows-alone c.requires.reader c.requires.register c.requires.node c.requires.read c.requires.open (c.requires.free c.if-free.true)
      (λ k few is. alone (slice_index c.args.node.now.choices.writers c.args.r) c.args.j k c.if-node-r-eq0.true few c.requires.reader is)
      c.leave_out.ensures refl (eqb-true _ _));
  others = kept-left c.args.node.now c.leave_out.ensures (λ a q within_a within_q differ is. (is, refl));
}

pub returns-then-not-branch : goal.returns-then-not-branch
returns-then-not-branch c = record {
  follows = follows-never c.branch_of-branch.ensures.branch c.if-branch-eq0.true (λ is. never-true (let t = c.if-not-branch.true in cc));
  others = λ a q within_a within_q differ is. (is, refl);
}

pub give_only-requires-clause-free : goal.give_only-requires-clause-free
give_only-requires-clause-free c = λ free.
    rw c.branch_of-branch.ensures.register (c.requires.free free)

pub returns-in-Some : goal.returns-in-Some
returns-in-Some c = rw (c.branch_of-branch.ensures.reader, c.branch_of-branch.ensures.register) at c.give_only.ensures
