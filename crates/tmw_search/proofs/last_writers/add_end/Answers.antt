use Rattle.tmw_search.proofs.Shared.{effects, ordered}
use Rattle.tmw_search.proofs.LastWriters.{ends-found, ends-none, plain-found}
use Rattle.tmw_search.proofs.last_writers.add_end.Goals as goal

pub returns-then-is_plain-clause-adds : goal.returns-then-is_plain-clause-adds
returns-then-is_plain-clause-adds c =
    ends-found (effects c.args.items.now) c.args.start.now (ordered c.args.node.now c.args.reach.now) (ordered c.args.node.now c.args.reach.now) c.args.end.now _ _ c.told-end
    (plain-found (effects c.args.items.now) c.args.start.now (ordered c.args.node.now c.args.reach.now) (c.is_plain.ensures c.if-is_plain.true) c.requires.node) c.add.ensures.adds

pub returns-in-Some-clause-adds : goal.returns-in-Some-clause-adds
returns-in-Some-clause-adds c =
    ends-found (effects c.args.items.now) c.args.start.now (ordered c.args.node.now c.args.reach.now) c.in-Some.field-0 c.args.end.now _ _ c.told-end c.in-Some.ensures c.add-in-Some.ensures.adds

pub returns-in-None-clause-adds : goal.returns-in-None-clause-adds
returns-in-None-clause-adds c =
    ends-none (effects c.args.items.now) c.args.start.now (ordered c.args.node.now c.args.reach.now) 0 c.args.end.now _ c.in-None.ensures
