use Rattle.tmw_search.proofs.Shared.{refl}
use Rattle.tmw_search.proofs.ReadSteps.{follows-given, follows-left, follows-then, kept-given, kept-left, only-closed, settled-by, taken-given}
use Rattle.tmw_search.proofs.read_consequences.give_only.Goals as goal

pub returns-in-Never : goal.returns-in-Never
returns-in-Never c = taken-given c.requires.branch c.requires.only c.give.ensures.gives c.in-Never.ensures.narrows

pub returns-then-free : goal.returns-then-free
returns-then-free c =
    let f = follows-given c.requires.branch c.requires.only c.give.ensures.gives c.in-Clear.ensures.narrows in
    record {
      follows = follows-then f (follows-left c.leave_out.ensures
          (settled-by c.args.branch.now.reader c.args.branch.now.register c.args.source
          c.requires.branch.reader c.requires.branch.register (f.is refl) (c.requires.free c.if-free.true) c.give.ensures.gives.given
          (only-closed c.args.branch.now c.args.source c.requires.only) c.in-Clear.ensures.clear) (f.is refl));
      others = kept-left c.args.node.now c.leave_out.ensures (kept-given c.give.ensures.gives);
    }

pub returns-else-free : goal.returns-else-free
returns-else-free c = taken-given c.requires.branch c.requires.only c.give.ensures.gives c.in-Clear.ensures.narrows

pub returns-in-Stuck : goal.returns-in-Stuck
returns-in-Stuck c = taken-given c.requires.branch c.requires.only c.give.ensures.gives c.in-Stuck.ensures.narrows
