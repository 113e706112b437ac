use Rattle.tmw_search.proofs.Shared.{arith, length-map, map, shift_is, view, ◌<◌}
use Rattle.tmw_search.proofs.RootNode.{rows-none, rows-more, rows-order, rows-begin}
use Rattle.tmw_search.proofs.WindowViews.{shown_at}
use Rattle.tmw_search.proofs.root.order_of.Goals as goal

pub loop-place-init : goal.loop-place-init
loop-place-init c = rows-none c.args.mask (map view c.args.items.now)

pub loop-place-preserved : goal.loop-place-preserved
loop-place-preserved c =
    let items = c.args.items.now in
    let place = c.loop-place.place in
    let within : place < 8 = omega (arith, c.loop-place-test.true, c.requires) in
    rows-more c.args.mask (map view items) place _ c.loop-place.reach c.loop-place.before c.row_of.result (view c.index-items-place.result)
    (shift_is place within) within c.row_of.type_inv (shown_at items place c.index-items-place.result c.loop-place-test.true c.index-items-place.is)
    c.loop-place.invariant c.row_of.ensures

pub returns-clause-order : goal.returns-clause-order
returns-clause-order = grind (arith, rows-order)

pub returns-clause-shows : goal.returns-clause-shows
returns-clause-shows = grind (arith, rows-begin, length-map)
