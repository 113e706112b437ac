-- No transaction is at a place past all.
use Rattle.tmw_search.proofs.Shared.{AreForced, List, View, arith, length, length-map, map, subst, view}
use Rattle.tmw_cuts.proofs.OneChanged.{change-past}
use Rattle.tmw_cuts.specs.Views.{with_status}
use Rattle.tmw_defs.specs.declared.status.Status.TheVariants.{Committed}
use Rattle.tmw_search.proofs.one_end.is_forced.Goals as goal

pub returns : goal.returns
returns c forced =
    let xs = map view c.args.items.now in
    subst (λ (ys : List View). AreForced ys)
    (change-past (with_status Committed) xs (length c.args.items.now) (omega (arith, length-map c.args.items.now view)))
    (c.are_forced.ensures forced)
