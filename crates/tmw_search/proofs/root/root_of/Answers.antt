use Rattle.tmw_search.proofs.Shared.{arith}
use Rattle.tmw_search.proofs.RootNode.{held-member}
use Rattle.tmw_search.proofs.root.root_of.Goals as goal

pub returns-clause-root : goal.returns-clause-root
returns-clause-root = grind arith

pub returns-clause-node : goal.returns-clause-node
returns-clause-node = grind (arith, held-member)
