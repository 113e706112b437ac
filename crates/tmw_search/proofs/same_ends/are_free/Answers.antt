use Rattle.tmw_search.proofs.Shared.{arith, map, view}
use Rattle.tmw_search.proofs.Bits.{masks}
use Rattle.tmw_search.proofs.SameEnds.{alike-ends, first-next}
use Rattle.tmw_search.proofs.WindowViews.{shown_at}
use Rattle.tmw_search.proofs.same_ends.are_free.Goals.{else-committed-place-eq0-via-then-committed-place-eq0+else-not-can_be_first, else-committed-place-eq0-via-else-committed-place-eq0}
use Rattle.tmw_search.proofs.same_ends.are_free.Goals as goal

pub loop-place-preserved : goal.loop-place-preserved
loop-place-preserved c =
    let items = c.args.items.now in
    let starts = c.args.starts.now in
    let place = c.loop-place.place in
    let committed = c.statuses_of-committed.result.committed in
    let item = c.index-items-place.result in
    first-next committed (map view items) starts place (view item) (shown_at items place item c.loop-place-test.true c.index-items-place.is)
    c.loop-place.invariant (λ out. elim c.else-committed-place-eq0.branch [
      | else-committed-place-eq0-via-then-committed-place-eq0+else-not-can_be_first w ↦ w.can_be_first.ensures.0 (grind (arith, w.if-not-can_be_first.false))
      | else-committed-place-eq0-via-else-committed-place-eq0 w ↦ absurd (grind (arith, masks, out, w.if-committed-place-eq0.false))
    ])

pub returns : goal.returns
returns c all events shown cut =
    alike-ends c.args.items.now events c.statuses_of-committed.result.committed c.statuses_of-committed.result.pending c.args.starts.now
    c.requires c.statuses_of-committed.ensures.eight c.statuses_of-committed.ensures.shows shown cut c.told-starts
    (λ j x low. c.loop-place.invariant j x (omega (arith, low, c.loop-place-test.false)))
