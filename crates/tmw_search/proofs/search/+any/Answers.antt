use Rattle.tmw_search.proofs.Shared.{arith, inl, inr, opens}
use Rattle.tmw_search.proofs.Nodes.{found-from, node-ordered, none-settled, none-with, found-less, found-clear, none-sides}
use Rattle.tmw_search.proofs.Branches.{tries-none, tries-next, tries-all, result-with, fewer-given, fewer-ordered}
use Rattle.tmw_search.proofs.search.+any.Goals.{then-branch+in-None-any, else-branch, then-precede+in-None-any-3, else-precede}
use Rattle.tmw_search.proofs.search.+any.Goals as goal

pub returns-then-not-is_alive : goal.returns-then-not-is_alive
returns-then-not-is_alive t c = none-settled c.requires.node c.settle-settled.ensures.narrows (cc)

pub any-requires : goal.any-requires
any-requires t c =
    let fewer = fewer-given c.requires.node.order c.settle-settled.ensures.narrows.grows c.give.ensures.gives.reach c.give.ensures.fewer in
    (omega (arith, c.decreases, fewer), c.give.ensures.gives.is)

pub returns-in-Some-any : goal.returns-in-Some-any
returns-in-Some-any t c =
    found-less c.settle-settled.ensures.narrows.grows (found-from c.give.ensures.gives.into c.in-Some-any.ensures)

pub loop-left-init : goal.loop-left-init
loop-left-init t c =
    tries-none c.in-Some.ensures (elim c.if-branch.branch [
      | then-branch+in-None-any w ↦ λ is held rank l reads. w.in-None-any.ensures held rank (w.give.ensures.gives.onto held rank l reads)
      | else-branch w ↦ λ is. absurd (let f = w.if-branch.false in cc)
    ])

pub any-requires-in-loop-left : goal.any-requires-in-loop-left
any-requires-in-loop-left t c =
    let child = c.give-in-loop-left.ensures in
    let fewer = fewer-given c.requires.node.order c.settle-settled.ensures.narrows.grows child.gives.reach child.fewer in
    (omega (arith, c.decreases, fewer), child.gives.is)

pub returns-in-Some-any-2 : goal.returns-in-Some-any-2
returns-in-Some-any-2 t c =
    found-less c.settle-settled.ensures.narrows.grows (found-from c.give-in-loop-left.ensures.gives.into c.in-Some-any-2.ensures)

pub loop-left-preserved : goal.loop-left-preserved
loop-left-preserved = grind (arith, tries-next)

pub returns-after-loop-left : goal.returns-after-loop-left
returns-after-loop-left t c =
    none-with c.requires.node c.settle-settled.ensures.narrows (tries-all c.loop-left-test.false c.loop-left.invariant)

pub any-requires-then-precede : goal.any-requires-then-precede
any-requires-then-precede t c =
    let b = c.in-Stuck.ensures.stuck in
    let settled = c.settle-settled.ensures.narrows in
    let p = c.precede.ensures.narrows in
    let fewer = fewer-ordered (opens c.args.node.now.choices) c.requires.node.order settled.order p.order b.third b.first settled.grows p.grows (c.precede.ensures.has c.if-precede.true) (λ is. b.free (inl is)) in (
      omega (arith, c.decreases, fewer),
      node-ordered (λ a b within_a within_b is. p.grows a b within_a within_b (settled.grows a b within_a within_b is)) p.order c.requires.node,
    )

pub returns-in-Some-any-3 : goal.returns-in-Some-any-3
returns-in-Some-any-3 t c =
    found-less (λ a b within_a within_b is. c.precede.ensures.narrows.grows a b within_a within_b
    (c.settle-settled.ensures.narrows.grows a b within_a within_b is))
    c.in-Some-any-3.ensures

pub any-requires-then-precede-2 : goal.any-requires-then-precede-2
any-requires-then-precede-2 t c =
    let b = c.in-Stuck.ensures.stuck in
    let settled = c.settle-settled.ensures.narrows in
    let p = c.precede-in-Stuck.ensures.narrows in
    let fewer = fewer-ordered (opens c.args.node.now.choices) c.requires.node.order settled.order p.order b.second b.third settled.grows p.grows (c.precede-in-Stuck.ensures.has c.if-precede-2.true) (λ is. b.free (inr is)) in (
      omega (arith, c.decreases, fewer),
      node-ordered (λ a b within_a within_b is. p.grows a b within_a within_b (settled.grows a b within_a within_b is)) p.order c.requires.node,
    )

pub returns-then-precede-2 : goal.returns-then-precede-2
returns-then-precede-2 t c =
    let p = c.precede-in-Stuck.ensures.narrows in
    let settled = c.settle-settled.ensures.narrows in
    let is = node-ordered settled.grows settled.order c.requires.node in
    result-with c.any-then-precede-2.result
    (λ none. none-with c.requires.node settled (none-sides is c.in-Stuck.ensures.stuck c.precede.ensures.narrows p
    (elim c.if-precede.branch [
      | then-precede+in-None-any-3 w ↦ λ alive. w.in-None-any-3.ensures
      | else-precede w ↦ λ alive. absurd (let f = w.if-precede.false in cc)
    ])
    (λ alive. none)))
    (λ f found. found-less (λ a b within_a within_b has. p.grows a b within_a within_b (settled.grows a b within_a within_b has)) found)
    c.any-then-precede-2.ensures

pub returns-else-precede-2 : goal.returns-else-precede-2
returns-else-precede-2 t c =
    let settled = c.settle-settled.ensures.narrows in
    let is = node-ordered settled.grows settled.order c.requires.node in
    none-with c.requires.node settled (none-sides is c.in-Stuck.ensures.stuck c.precede.ensures.narrows c.precede-in-Stuck.ensures.narrows
    (elim c.if-precede.branch [
      | then-precede+in-None-any-3 w ↦ λ alive. w.in-None-any-3.ensures
      | else-precede w ↦ λ alive. absurd (let f = w.if-precede.false in cc)
    ])
    (λ alive. absurd (let f = c.if-precede-2.false in cc)))

pub returns-in-Clear : goal.returns-in-Clear
returns-in-Clear t c =
    let settled = c.settle-settled.ensures.narrows in
    found-less settled.grows
    (found-clear (node-ordered settled.grows settled.order c.requires.node) c.in-Clear.ensures.clear c.in-None.ensures)

pub pick-requires : goal.pick-requires
pick-requires t c =
    let settled = c.settle-settled.ensures.narrows in record { node = node-ordered settled.grows settled.order c.requires.node }

pub give-requires-clause-node : goal.give-requires-clause-node
give-requires-clause-node t c =
    let settled = c.settle-settled.ensures.narrows in node-ordered settled.grows settled.order c.requires.node

pub give-requires-in-loop-left-clause-node : goal.give-requires-in-loop-left-clause-node
give-requires-in-loop-left-clause-node t c =
    let settled = c.settle-settled.ensures.narrows in node-ordered settled.grows settled.order c.requires.node
