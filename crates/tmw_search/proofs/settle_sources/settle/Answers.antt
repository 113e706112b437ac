use Rattle.tmw_search.proofs.Shared.{Bool, Chosen, Narrows, subst}
use Rattle.tmw_search.proofs.Consequences.{narrows-then, room-less}
use Rattle.tmw_search.proofs.settle_sources.settle.Goals as goal

pub returns-else-not-is_same-clause-narrows : goal.returns-else-not-is_same-clause-narrows
returns-else-not-is_same-clause-narrows c =
    narrows-then (λ rank is. is) (λ rank is. is) c.loop-reach.invariant.before c.loop-reach.invariant.pass.narrows

pub returns-after-loop-reach-clause-narrows : goal.returns-after-loop-reach-clause-narrows
returns-after-loop-reach-clause-narrows c =
    narrows-then (λ rank is. is) (λ rank is. is) c.loop-reach.invariant.before c.loop-reach.invariant.pass.narrows

pub loop-reach-smaller : goal.loop-reach-smaller
loop-reach-smaller c =
    let o = c.loop-reach.invariant.before.order in
    let p = c.loop-reach.invariant.pass.narrows in
    room-less c.loop-reach.was c.loop-reach.reach o.size p.order.size o.fits p.order.fits p.grows
    (λ same. absurd (let t = c.is_same.ensures.1 same in cc))

pub loop-reach-preserved : goal.loop-reach-preserved
loop-reach-preserved c = record {
  before = subst (λ (b : Bool). Narrows (Chosen c.args.choices.now) c.args.reach.now c.loop-reach.reach b) (cc)
      (narrows-then (λ rank is. is) (λ rank is. is) c.loop-reach.invariant.before c.loop-reach.invariant.pass.narrows);
  pass = c.settle_once-found-in-loop-reach.ensures;
}
