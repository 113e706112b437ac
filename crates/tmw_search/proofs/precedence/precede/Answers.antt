use Rattle.tmw_search.proofs.Shared.{arith}
use Rattle.tmw_search.proofs.Consequences.{none-precedes, joined-narrows, same-narrows}
use Rattle.tmw_search.proofs.precedence.precede.Goals as goal

pub returns-then-has-clause-narrows : goal.returns-then-has-clause-narrows
returns-then-has-clause-narrows c = same-narrows c.requires.order

pub returns-then-has-2-clause-narrows : goal.returns-then-has-2-clause-narrows
returns-then-has-2-clause-narrows = grind (arith, none-precedes)

pub returns-clause-narrows : goal.returns-clause-narrows
returns-clause-narrows = grind (arith, joined-narrows)

pub returns-clause-has : goal.returns-clause-has
returns-clause-has c = λ is. c.join.ensures.adds c.args.i c.args.j c.requires.second (c.requires.order.self c.args.j c.requires.second) (c.requires.order.self c.args.i c.requires.first)
