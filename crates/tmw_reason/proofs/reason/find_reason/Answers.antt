use Rattle.tmw_reason.proofs.Shared.{inr, length, rules, transactions, ◌≤◌}
use Rattle.tmw_reason.proofs.reason.find_reason.Goals as goal

pub returns : goal.returns
returns c =
    let few : length (transactions c.args.events.now) ≤ 8 = search rules in
    let found = rw (
      c.deref-6.ensures.value,
      c.in_ok-drawn.ensures,
      c.deref-2.ensures.value,
      c.in_ok-places.ensures,
      c.deref-3.ensures.value,
      c.deref-5.ensures.value,
      c.in_ok-window.ensures,
      c.deref-4.ensures.value,
      c.in_ok-part.ensures,
      c.deref.ensures.value,
      c.in_ok-kept_of.ensures,
    ) at c.in_ok-found.ensures in
    inr (few, found)
