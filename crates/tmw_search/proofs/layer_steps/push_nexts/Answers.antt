use Rattle.tmw_search.proofs.Shared.{MakesAt, arith, length, length-map, map, slice_get_within, view, ◌≡◌}
use Rattle.tmw_search.proofs.AddMembers.{adds-first, adds-next, adds-places}
use Rattle.tmw_search.proofs.LayerLists.{adds-ways}
use Rattle.tmw_search.proofs.WindowViews.{shown_at}
use Rattle.tmw_search.proofs.layer_steps.push_nexts.Goals as goal

pub loop-place-init : goal.loop-place-init
loop-place-init c = adds-first

pub loop-place-preserved : goal.loop-place-preserved
loop-place-preserved c =
    let items = c.args.items.now in
    let place = c.loop-place.place in
    adds-next (MakesAt (map view items) c.args.reached.now) place c.loop-place.invariant
    (adds-ways (map view items) place (view c.index-items-place.result) c.args.reached.now
    (shown_at items place c.index-items-place.result c.loop-place-test.true c.index-items-place.is)
    c.in_ok-push_next.ensures c.in_ok-push_next-2.ensures)

pub returns : goal.returns
returns c =
    let items = c.args.items.now in
    let all : c.loop-place.place ≡ length (map view items) =
    omega (arith, c.loop-place-test.false, c.loop-place.auto.place-end, length-map items view) in
    adds-places (MakesAt (map view items) c.args.reached.now) (length (map view items))
    (λ i q (x, at, held, made). slice_get_within (map view items) i x at) (rw all at c.loop-place.invariant)
