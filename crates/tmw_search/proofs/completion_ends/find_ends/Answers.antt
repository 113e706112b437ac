use Rattle.tmw_search.proofs.Shared.{arith, length-map}
use Rattle.tmw_search.proofs.SearchAnswers.{begun}
use Rattle.tmw_search.proofs.AllCompletions.{ends-few, ends-many}
use Rattle.tmw_search.proofs.RootNode.{marks-within}
use Rattle.tmw_search.proofs.completion_ends.find_ends.Goals as goal

pub add_completions-requires-clause-within : goal.add_completions-requires-clause-within
add_completions-requires-clause-within c = grind (arith, marks-within, c.statuses_of-statuses.ensures.shows.committed_at, length-map)

pub add_completions-requires-clause-left : goal.add_completions-requires-clause-left
add_completions-requires-clause-left c = grind (arith, marks-within, c.statuses_of-statuses.ensures.shows.pending_at, length-map)

pub returns-then-not-add_completions-clause-ends : goal.returns-then-not-add_completions-clause-ends
returns-then-not-add_completions-clause-ends c =
    ends-many c.add_completions.new.found.ends (begun c.requires.few c.statuses_of-statuses.ensures.eight c.statuses_of-statuses.ensures.shows c.orderly.ensures c.order_of-reach.ensures.shows)
    c.told-starts (let more = c.add_completions.ensures.more c.if-not-add_completions.true in omega (arith, more, c.begin.ensures.cap))
    (rw c.begin.ensures.ends at c.add_completions.ensures.adds)

pub returns-then-not-are_few-clause-ends : goal.returns-then-not-are_few-clause-ends
returns-then-not-are_few-clause-ends c =
    ends-many c.add_completions.new.found.ends (begun c.requires.few c.statuses_of-statuses.ensures.eight c.statuses_of-statuses.ensures.shows c.orderly.ensures c.order_of-reach.ensures.shows)
    c.told-starts (let more = c.are_few.ensures.more c.if-not-are_few.true in omega (arith, more, c.add_completions.ensures.cap, c.begin.ensures.cap))
    (rw c.begin.ensures.ends at c.add_completions.ensures.adds)

pub returns-clause-ends : goal.returns-clause-ends
returns-clause-ends c =
    ends-few c.add_completions.new.found.ends (begun c.requires.few c.statuses_of-statuses.ensures.eight c.statuses_of-statuses.ensures.shows c.orderly.ensures c.order_of-reach.ensures.shows)
    c.told-starts (let few = c.are_few.ensures.few c.if-not-are_few.false in omega (arith, few, c.add_completions.ensures.cap, c.begin.ensures.cap))
    (rw (c.begin.ensures.ends, c.if-not-add_completions.false) at c.add_completions.ensures.adds)
