use Rattle.tmw_search.proofs.Shared.{arith}
use Rattle.tmw_search.proofs.Consequences.{joins-each}
use Rattle.tmw_search.proofs.precedence.join.Goals as goal

pub returns : goal.returns
returns c =
    joins-each c.args.place c.args.before c.args.reach.now c.loop-k.reach c.loop-k.invariant.0 c.requires.order.fits c.ranges.before.fits (grind (arith, c.loop-k.invariant.1, c.loop-k-test.false))
