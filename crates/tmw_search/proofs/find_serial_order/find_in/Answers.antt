use Rattle.tmw_search.proofs.Shared.{arith, refl, take_all}
use Rattle.tmw_search.proofs.SearchAnswers.{none-read, begun, refutes, explains, none-agrees, none-first, none-more, start-at, start-size}
use Rattle.tmw_search.proofs.Nodes.{found-from}
use Rattle.tmw_search.proofs.find_serial_order.find_in.Goals.{then-read_all+in-None, else-read_all}
use Rattle.tmw_search.proofs.find_serial_order.find_in.Goals as goal

pub returns-then-not-all_agree : goal.returns-then-not-all_agree
returns-then-not-all_agree c = λ start has.
    refutes (begun c.requires c.statuses_of-statuses.ensures.eight c.statuses_of-statuses.ensures.shows c.orderly.ensures c.order_of-reach.ensures.shows)
    (start-size c.args.starts.now start c.told-starts has) c.root_of-root.ensures.root
    (none-agrees (λ agree. let told = c.if-not-all_agree.ensures.1 agree in absurd (cc)))

pub loop-start-init : goal.loop-start-init
loop-start-init c = none-first c.args.criterion c.args.items.now

pub read_all-requires-clause-node : goal.read_all-requires-clause-node
read_all-requires-clause-node c = c.root_of-root.ensures.node (c.if-not-all_agree.ensures.0 refl) _ _

pub read_all-requires-clause-waits : goal.read_all-requires-clause-waits
read_all-requires-clause-waits c = λ a q within_a within_q is. (is, c.root_of-root.ensures.root.free a q within_a within_q)

pub returns-in-Some : goal.returns-in-Some
returns-in-Some c = (
  start-at c.args.starts.now c.loop-start.start-index c.loop-start-test.true,
  explains (begun c.requires c.statuses_of-statuses.ensures.eight c.statuses_of-statuses.ensures.shows c.orderly.ensures c.order_of-reach.ensures.shows)
      (c.told-starts c.loop-start.start-index c.loop-start-test.true) c.root_of-root.ensures.root (found-from (λ held rank l. c.if-read_all.ensures.into held rank refl l) c.in-Some.ensures),
)

pub loop-start-preserved : goal.loop-start-preserved
loop-start-preserved c =
    let begins = begun c.requires c.statuses_of-statuses.ensures.eight c.statuses_of-statuses.ensures.shows c.orderly.ensures c.order_of-reach.ensures.shows in
    none-more c.args.criterion c.args.items.now c.args.starts.now c.loop-start.start-index c.loop-start-test.true c.loop-start.invariant
    (refutes begins (c.told-starts c.loop-start.start-index c.loop-start-test.true) c.root_of-root.ensures.root (elim c.if-read_all.branch [
      | then-read_all+in-None w ↦ λ held rank l. w.in-None.ensures held rank (w.if-read_all.ensures.onto held rank l).1
      | else-read_all w ↦ none-read w.if-read_all.ensures
    ]))

pub returns : goal.returns
returns c = rw (take_all c.loop-start.start-index c.args.starts.now (omega (arith, c.loop-start-test.false))) at c.loop-start.invariant
