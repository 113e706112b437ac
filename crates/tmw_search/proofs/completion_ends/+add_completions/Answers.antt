use Rattle.tmw_search.proofs.Shared.{arith}
use Rattle.tmw_search.proofs.Bits.{less_lt, masks}
use Rattle.tmw_search.proofs.AllCompletions.{more-next, more-part}
use Rattle.tmw_search.proofs.completion_ends.+add_completions.Goals as goal

pub returns-then-left-eq0-clause-adds : goal.returns-then-left-eq0-clause-adds
returns-then-left-eq0-clause-adds = grind arith

pub returns-then-not-add_completions-clause-adds : goal.returns-then-not-add_completions-clause-adds
returns-then-not-add_completions-clause-adds = grind (arith, more-part)

pub add_completions-requires-2 : goal.add_completions-requires-2
add_completions-requires-2 t c = grind (arith, c.decreases, less_lt, c.args.left, c.lowest-i.ensures.within, c.lowest-i.ensures.among, c.requires.few, c.requires.order, masks)

pub returns-clause-adds : goal.returns-clause-adds
returns-clause-adds = grind (arith, more-next)
