use Rattle.tmw_search.proofs.Shared.{In, arith, inl, inr, refl}
use Rattle.tmw_search.proofs.Bits.{masks, or-left, or-right}
use Rattle.tmw_search.proofs.ForcedEnds.{needs-next}
use Rattle.tmw_search.proofs.forced_ends.needs_of.Goals.{then-committed-place-eq1, else-committed-place-eq1}
use Rattle.tmw_search.proofs.forced_ends.needs_of.Goals as goal

pub loop-place-preserved : goal.loop-place-preserved
loop-place-preserved c writes =
    let was = c.loop-place.invariant writes in
    let place = c.loop-place.place in
    let committed = c.args.committed in
    elim c.if-committed-place-eq1.branch [
      | then-committed-place-eq1 w ↦ (
          let own : In committed place = grind (arith, masks, w.if-committed-place-eq1.true) in
          rw w.needs-is (needs-next was (w.add_needs.ensures committed writes own))
          )
      | else-committed-place-eq1 w ↦ rw w.needs-is (needs-next was (record {
        fixed = λ r few is. inl (is, refl);
        kept = λ r few was. elim was [ inl is ↦ inl is | inr is ↦ inr (or-left c.loop-place.needs.open w.needed_at.result r is) ];
        all = λ r few need. inr (or-right c.loop-place.needs.open w.needed_at.result r (rw w.needed_at.ensures need));
      }))
    ]

pub returns : goal.returns
returns c writes =
    let u = c.loop-place.invariant writes in
    record { fixed = u.fixed; all = λ j r low few need. u.all j r (omega (arith, low, c.loop-place-test.false)) few need }
