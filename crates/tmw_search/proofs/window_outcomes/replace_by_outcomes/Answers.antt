-- The outcomes are searched.
use Rattle.tmw_search.proofs.Shared.{arith, refl}
use Rattle.tmw_search.proofs.window_outcomes.replace_by_outcomes.Goals as goal

pub returns-then-not-find_outcomes-clause-replaces : goal.returns-then-not-find_outcomes-clause-replaces
returns-then-not-find_outcomes-clause-replaces c events stands =
    ((rw c.if-not-find_outcomes.true at c.find_outcomes.ensures.ends) events stands, refl)

pub returns-clause-replaces : goal.returns-clause-replaces
returns-clause-replaces c events stands =
    rw c.swap.ensures.x_after ((rw c.if-not-find_outcomes.false at c.find_outcomes.ensures.ends) events stands)

pub invariant_of-found : goal.invariant_of-found
invariant_of-found c = record {
  room = rw c.swap.ensures.y_after c.requires.room;
  most = rw (c.swap.ensures.y_after, c.find_outcomes.ensures.cap) (let room = c.requires.room in let cap = c.requires.cap in omega (arith, room, cap));
}
