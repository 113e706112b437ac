use Rattle.tmw_search.proofs.SearchAnswers.{tells-none, tells-some}
use Rattle.tmw_search.proofs.find_serial_order.find_order.Goals as goal

pub returns-in-None-clause-tells : goal.returns-in-None-clause-tells
returns-in-None-clause-tells c =
    tells-none c.args.criterion c.args.states.now c.args.window.now c.transactions.result.now c.states.result.now c.transactions.ensures.shown
    c.states.ensures.members c.in-None.ensures

pub returns-in-Some-clause-tells : goal.returns-in-Some-clause-tells
returns-in-Some-clause-tells c =
    tells-some c.args.criterion c.args.states.now c.args.window.now c.transactions.result.now c.states.result.now _ c.transactions.ensures.shown
    c.states.ensures.members c.in-Some.ensures.0 c.in-Some.ensures.1
