use Rattle.tmw_search.proofs.Shared.{arith, effects}
use Rattle.tmw_search.proofs.Nodes.{may-agree, may-within, gives-of, given-closed, opens-less}
use Rattle.tmw_search.proofs.search.give.Goals as goal

pub hold_source-requires : goal.hold_source-requires
hold_source-requires = grind (arith, may-within)

pub returns-clause-gives : goal.returns-clause-gives
returns-clause-gives c =
    gives-of c.requires.reader c.requires.register c.requires.read c.requires.free c.requires.node c.requires.may
    (c.hold_source.ensures c.args.start.now c.args.may c.requires.node
    (may-agree (effects c.args.items.now) c.args.start.now c.args.may c.args.node.now c.args.j c.args.r c.args.source c.requires.may))
    (omega arith)

pub returns-clause-fewer : goal.returns-clause-fewer
returns-clause-fewer c =
    let mid = c.hold_source.ensures c.args.start.now c.args.may c.requires.node
    (may-agree (effects c.args.items.now) c.args.start.now c.args.may c.args.node.now c.args.j c.args.r c.args.source c.requires.may) in
    grind (arith, mid.sources, opens-less, c.args.node.now.choices.sources, c.args.j, c.args.r, c.args.source, c.requires.free, given-closed, c.args.may)
