use Rattle.tmw_search.proofs.Shared.{Clear, Stuck, arith, refl}
use Rattle.tmw_search.proofs.Consequences.{narrows-then, bit-left, no-bit, out-grows, passed-all, passed-never, passed-next, passed-none, passes-then}
use Rattle.tmw_search.proofs.consequence.settle_read.Goals as goal

pub loop-left-init : goal.loop-left-init
loop-left-init c = passed-none c.if-not-precede.ensures.narrows.order

pub returns-in-Never : goal.returns-in-Never
returns-in-Never c = record {
  narrows = narrows-then (λ rank is. omega (arith, is.before)) (λ rank is. is.out) c.if-not-precede.ensures.narrows
      (passed-never c.lowest-k.ensures.within c.lowest-k.ensures.among c.loop-left.invariant c.in-Never.ensures.narrows);
  clear = tt;
  stuck = tt;
}

pub loop-left-preserved-in-Clear : goal.loop-left-preserved-in-Clear
loop-left-preserved-in-Clear c =
    let k = c.lowest-k.ensures in
    passed-next Clear k.within k.among (bit-left c.loop-left.left c.lowest-k.result k.within k.among)
    (λ q few grows is. out-grows c.args.i c.args.j q _ _ c.requires.first c.requires.second few grows is) c.loop-left.invariant
    (record { narrows = c.in-Clear.ensures.narrows; clear = c.in-Clear.ensures.clear; stuck = tt }) refl

pub loop-left-preserved : goal.loop-left-preserved
loop-left-preserved c =
    let k = c.lowest-k.ensures in
    passed-next (Stuck c.in-Stuck.a c.in-Stuck.b c.in-Stuck.k) k.within k.among (bit-left c.loop-left.left c.lowest-k.result k.within k.among)
    (λ q few grows is. out-grows c.args.i c.args.j q _ _ c.requires.first c.requires.second few grows is) c.loop-left.invariant
    (record { narrows = c.in-Stuck.ensures.narrows; clear = tt; stuck = c.in-Stuck.ensures.stuck }) refl

pub returns : goal.returns
returns c =
    let first = c.requires.first in
    let second = c.requires.second in
    let o = c.requires.order in
    passes-then (λ rank is. omega (arith, is.before)) (λ rank is. is.out) (λ grows done. record {
      has = grows c.args.i c.args.j first second (c.if-not-precede.ensures.has (cc));
      apart = grind (arith, c.has.ensures.1, c.args.j, o.self, second, c.if-has.false);
      out = done;
    }) c.if-not-precede.ensures.narrows (passed-all (no-bit c.loop-left.left c.loop-left-test.false) c.loop-left.invariant)
