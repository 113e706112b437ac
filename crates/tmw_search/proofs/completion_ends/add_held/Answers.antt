use Rattle.tmw_search.proofs.Shared.{refl}
use Rattle.tmw_search.proofs.AllCompletions.{held-none, held-added}
use Rattle.tmw_search.proofs.completion_ends.add_held.Goals as goal

pub returns-then-not-all_agree-clause-adds : goal.returns-then-not-all_agree-clause-adds
returns-then-not-all_agree-clause-adds c =
    held-none c.requires.within c.root_of-root.ensures.root (λ agree. let told = c.if-not-all_agree.ensures.1 agree in absurd (cc))

pub add_all-requires-clause-node : goal.add_all-requires-clause-node
add_all-requires-clause-node c = λ start. c.root_of-root.ensures.node (c.if-not-all_agree.ensures.0 refl) start 0

pub add_all-requires-clause-waits : goal.add_all-requires-clause-waits
add_all-requires-clause-waits c = λ a q within_a within_q is. (is, c.root_of-root.ensures.root.free a q within_a within_q)

pub add_all-requires-clause-reads : goal.add_all-requires-clause-reads
add_all-requires-clause-reads c = c.root_of-root.ensures.root.reads

pub returns-clause-adds : goal.returns-clause-adds
returns-clause-adds c =
    held-added c.requires.within c.root_of-root.ensures.root c.add_all.ensures.adds
