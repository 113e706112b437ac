use Rattle.tmw_search.proofs.Shared.{Bool, HasEight, Marks, Some, View, arith, effect_of, length, length-map, map, refl, slice_get, slice_get_read, slice_get_within, view, ℕ, ◌+◌, ◌<◌, ◌≡◌}
use Rattle.tmw_search.proofs.RootNode.{marks-more, marks-same}
use Rattle.tmw_search.proofs.WindowViews.{shown_at}
use Rattle.tmw_cuts.specs.declared.txn.Txn as cuts
use Rattle.tmw_search.proofs.root.statuses_of.Goals as goal

pub loop-place-preserved : goal.loop-place-preserved
loop-place-preserved c =
    let items = c.args.items.now in
    let place = c.loop-place.place in
    let within : place < 8 = omega (arith, c.loop-place-test.true, c.requires) in
    let x = view c.index-items-place.result in
    let at = shown_at items place c.index-items-place.result c.loop-place-test.true c.index-items-place.is in
    let item = c.index-items-place.result in
    let sized : HasEight (effect_of item) =
    (rw c.effect.ensures at c.tell_eight.ensures, rw c.effect-in-loop-place.ensures at c.tell_eight-in-loop-place.ensures) in
    let here : slice_get items place ≡ Some item = slice_get_read items (length items) place item refl c.loop-place-test.true c.index-items-place.is in
    let eight : (i : ℕ) (y : cuts.Txn) → i < place + 1 → slice_get items i ≡ Some y → HasEight (effect_of y) =
    λ i y below there. grind (arith, c.loop-place.invariant.eight i y, here, sized) in
    let set = λ (holds : View → Bool) (mask : ℕ) (m : Marks holds (map view items) place mask). marks-more holds (map view items) place mask x within at m in
    grind (arith, marks-same, x, c.loop-place.invariant.committed, c.loop-place.invariant.pending, c.match-item.branch, set, eight)

pub returns-clause-shows : goal.returns-clause-shows
returns-clause-shows = grind (arith, length-map)

pub returns-clause-eight : goal.returns-clause-eight
returns-clause-eight c = grind (arith, c.loop-place.invariant.eight, slice_get_within, c.loop-place-test.false)
