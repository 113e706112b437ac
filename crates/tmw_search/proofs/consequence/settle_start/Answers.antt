use Rattle.tmw_search.proofs.Shared.{Clear, refl}
use Rattle.tmw_search.proofs.Consequences.{bit-left, no-bit, passed-all, passed-never, passed-next}
use Rattle.tmw_search.proofs.consequence.settle_start.Goals as goal

pub returns-then-not-precede-clause-narrows : goal.returns-then-not-precede-clause-narrows
returns-then-not-precede-clause-narrows c =
    passed-never c.lowest-k.ensures.within c.lowest-k.ensures.among c.loop-left.invariant c.if-not-precede.ensures.narrows

pub loop-left-preserved : goal.loop-left-preserved
loop-left-preserved c =
    let k = c.lowest-k.ensures in
    passed-next Clear k.within k.among (bit-left c.loop-left.left c.lowest-k.result k.within k.among)
    (λ q few grows is. grows c.args.j q c.requires.within few is) c.loop-left.invariant
    (record { narrows = c.if-not-precede.ensures.narrows; clear = c.if-not-precede.ensures.has (cc); stuck = tt }) refl

pub returns-clause-clear : goal.returns-clause-clear
returns-clause-clear c = λ is. (passed-all (no-bit c.loop-left.left c.loop-left-test.false) c.loop-left.invariant).clear
