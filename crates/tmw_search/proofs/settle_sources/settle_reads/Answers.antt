use Rattle.tmw_search.proofs.Shared.{Clear, Stuck, refl}
use Rattle.tmw_search.proofs.Consequences.{bit-left, no-bit, passed-all, passed-never, passed-next, passed-none, source-grows}
use Rattle.tmw_search.proofs.settle_sources.settle_reads.Goals as goal

pub loop-left-init : goal.loop-left-init
loop-left-init c = passed-none c.requires.order

pub returns-in-Never : goal.returns-in-Never
returns-in-Never c = record {
  narrows = passed-never c.lowest-r.ensures.within c.lowest-r.ensures.among c.loop-left.invariant c.in-Never.ensures.narrows;
  clear = tt;
  stuck = tt;
}

pub loop-left-preserved-in-Clear : goal.loop-left-preserved-in-Clear
loop-left-preserved-in-Clear c =
    let r = c.lowest-r.ensures in
    passed-next Clear r.within r.among (bit-left c.loop-left.left c.lowest-r.result r.within r.among)
    (λ q few grows is. source-grows _ c.args.j _ _ _ c.requires.second (c.requires.within c.args.j q c.requires.second few) grows is)
    c.loop-left.invariant c.in-Clear.ensures refl

pub loop-left-preserved : goal.loop-left-preserved
loop-left-preserved c =
    let r = c.lowest-r.ensures in
    passed-next (Stuck c.in-Stuck.a c.in-Stuck.b c.in-Stuck.k) r.within r.among (bit-left c.loop-left.left c.lowest-r.result r.within r.among)
    (λ q few grows is. source-grows _ c.args.j _ _ _ c.requires.second (c.requires.within c.args.j q c.requires.second few) grows is)
    c.loop-left.invariant c.in-Stuck.ensures refl

pub returns : goal.returns
returns c = passed-all (no-bit c.loop-left.left c.loop-left-test.false) c.loop-left.invariant
