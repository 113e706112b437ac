use Rattle.tmw_search.proofs.Shared.{arith, length-map, map, view}
use Rattle.tmw_cuts.proofs.OneChanged.{length-change}
use Rattle.tmw_cuts.specs.Turns.{change}
use Rattle.tmw_cuts.specs.Views.{with_status}
use Rattle.tmw_defs.specs.declared.status.Status.TheVariants.{Committed}
use Rattle.tmw_search.proofs.OneEnd.{tell-none, tell-next, tell-all}
use Rattle.tmw_search.proofs.WindowViews.{shown-with}
use Rattle.tmw_search.proofs.one_end.are_forced.Goals as goal

pub loop-index-init : goal.loop-index-init
loop-index-init c = tell-none (change c.args.place (with_status Committed) (map view c.args.items.now))

pub loop-index-preserved : goal.loop-index-preserved
loop-index-preserved c =
    let at = c.loop-index.index in
    let item = c.index-items-index.result in
    tell-next (change c.args.place (with_status Committed) (map view c.args.items.now)) at c.loop-index.once c.loop-index.twice c.loop-index.blind
    c.written_by-own.result c.needed.result _
    (shown-with c.args.items.now c.args.place at item c.loop-index-test.true c.index-items-index.is)
    c.written_by-own.type_inv c.needed.type_inv c.written_by-own.ensures c.needed.ensures c.loop-index.invariant

pub returns : goal.returns
returns = grind (arith, tell-all, length-map, length-change)
