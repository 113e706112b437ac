use Rattle.tmw_search.proofs.Shared.{arith, refl, ◌∙◌}
use Rattle.tmw_search.proofs.ForcedEnds.{alike-all, alike-next, alike-past, fits-all, fits-next, fits-none, fits-past}
use Rattle.tmw_search.proofs.forced_ends.add_forced.Goals.{then-not-differ+else-not-is_alike+else-not-add, else-not-differ}
use Rattle.tmw_search.proofs.forced_ends.add_forced.Goals as goal

pub loop-start-init : goal.loop-start-init
loop-start-init c = record {
  adds = fits-none c.args.starts.now;
  alike = λ s (i, less, is) m. absurd (omega (arith, less));
  cap = refl;
}

pub loop-start-preserved : goal.loop-start-preserved
loop-start-preserved c =
    let starts = c.args.starts.now in
    let n = c.loop-start.start-index in
    let was = c.loop-start.invariant in
    elim c.if-not-differ.branch [
      | then-not-differ+else-not-is_alike+else-not-add w ↦ rw (w.found-is, w.fit-is) (record {
        adds = fits-next starts n was.adds (c.differ.ensures.0 (grind (arith, w.if-not-differ.true))) (rw w.if-not-add.false at w.add.ensures.adds) w.overlaid.ensures;
        alike = alike-next c.args.needs.now starts n c.loop-start.fit was.alike (w.is_alike.ensures.0 (grind (arith, w.if-not-is_alike.false)));
        cap = w.add.ensures.cap ∙ was.cap;
      })
      | else-not-differ w ↦ rw (w.found-is, w.fit-is) (record {
        adds = fits-past starts n was.adds (λ m. absurd (let no = c.differ.ensures.1 m in grind (arith, w.if-not-differ.false, no)));
        alike = alike-past c.args.needs.now starts n c.loop-start.fit was.alike (λ m. absurd (let no = c.differ.ensures.1 m in grind (arith, w.if-not-differ.false, no)));
        cap = was.cap;
      })
    ]

pub returns-clause-adds : goal.returns-clause-adds
returns-clause-adds c done = fits-all c.args.starts.now c.loop-start.start-index (omega (arith, c.loop-start-test.false, c.loop-start.auto.start-index-end)) c.loop-start.invariant.adds

pub returns-clause-alike : goal.returns-clause-alike
returns-clause-alike c done =
    alike-all c.args.needs.now c.args.starts.now c.loop-start.start-index c.loop-start.fit (omega (arith, c.loop-start-test.false, c.loop-start.auto.start-index-end)) c.loop-start.invariant.alike
