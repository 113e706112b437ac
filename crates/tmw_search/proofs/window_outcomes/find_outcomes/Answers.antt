use Rattle.tmw_search.proofs.AllCompletions.{ends-window}
use Rattle.tmw_search.proofs.window_outcomes.find_outcomes.Goals as goal

pub returns-clause-ends : goal.returns-clause-ends
returns-clause-ends c =
    ends-window c.args.criterion c.args.states.now c.args.window.now c.transactions.result.now c.states.result.now c.args.cap _
    c.transactions.ensures.shown c.states.ensures.members c.find_ends.ensures.ends
