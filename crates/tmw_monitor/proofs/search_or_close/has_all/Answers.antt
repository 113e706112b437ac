-- There is one outcome alone, or what has not committed can come first.
use Rattle.tmw_monitor.proofs.Shared.{members, sym, ◌∙◌}
use Rattle.tmw_monitor.proofs.OpaqueEnds.{alone-opaquely}
use Rattle.tmw_monitor.proofs.search_or_close.has_all.Goals as goal

pub returns-then-len-eq1 : goal.returns-then-len-eq1
returns-then-len-eq1 c all cap events stands cut was ends end strictly =
    let old = c.args.kept.now in
    let (one, is) = c.is_known.ensures.ends (members old.states) events was c.if-is_known.true in
    alone-opaquely old.states c.args.outcomes.now cap events one (sym c.len.ensures ∙ c.if-len-eq1.true) is ends end strictly

pub returns : goal.returns
returns c all cap events stands cut was ends = c.ends_alike.ensures all events stands cut
