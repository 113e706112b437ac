use Rattle.tmw_search.proofs.same_ends.ends_alike.Goals as goal

pub returns : goal.returns
returns c all events stands cut =
    rw c.states.ensures.members at (c.are_free.ensures all events (c.transactions.ensures.stands events stands) cut)
