use Rattle.tmw_search.proofs.LastWriters.{last-order, last-narrows, last-has}
use Rattle.tmw_search.proofs.Consequences.{narrows-then, same-narrows}
use Rattle.tmw_search.proofs.last_writers.put_last.Goals as goal

pub settle-requires-clause-order : goal.settle-requires-clause-order
settle-requires-clause-order c =
    let r = c.requires in last-order r.within r.order r.comes r.writes r.free c.join.ensures

pub returns-then-is_plain-clause-narrows : goal.returns-then-is_plain-clause-narrows
returns-then-is_plain-clause-narrows c =
    let r = c.requires in
    rw c.if-is_plain.true (narrows-then (λ rank is. is) (λ rank is. is.0) (same-narrows r.order)
    (last-narrows r.within r.order r.comes r.writes r.free c.join.ensures))

pub returns-then-is_plain-clause-last : goal.returns-then-is_plain-clause-last
returns-then-is_plain-clause-last c = λ is. let r = c.requires in last-has r.within r.order r.comes r.writes r.free c.join.ensures

pub returns-else-is_plain-clause-narrows : goal.returns-else-is_plain-clause-narrows
returns-else-is_plain-clause-narrows c =
    let r = c.requires in
    rw c.is_alive.ensures (narrows-then (λ rank is. is.0) (λ rank is. is.1)
    (last-narrows r.within r.order r.comes r.writes r.free c.join.ensures) c.settle.ensures.narrows)

pub returns-else-is_plain-clause-last : goal.returns-else-is_plain-clause-last
returns-else-is_plain-clause-last c = λ is k few one.
    let r = c.requires in
    c.settle.ensures.narrows.grows k c.args.i few r.within (last-has r.within r.order r.comes r.writes r.free c.join.ensures k few one)
