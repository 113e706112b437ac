use Rattle.tmw_search.proofs.Shared.{Contains, arith, ends-by, members, sym, transactions, true, ◌∙◌, ◌≡◌}
use Rattle.tmw_search.proofs.OneEnd.{only-end}
use Rattle.tmw_search.proofs.forced_ends.replace_by_forced.Goals as goal

pub returns-then-len-eq1-clause-replaces : goal.returns-then-len-eq1-clause-replaces
returns-then-len-eq1-clause-replaces c done = (
  c.in-Some.end,
  c.in-Some.is,
  λ criterion events stands known.
      let end = c.in-Some.end in
      let cut : c.is_cut.result ≡ true = grind (arith, c.if-not-is_cut.false) in
      let forced : c.is_forced.result ≡ true = grind (arith, c.if-not-is_forced.false) in
      only-end criterion c.args.states.now c.put_only.new.self c.args.window.now _ c.args.cap end
      c.transactions-items.ensures.shown (sym c.len.ensures ∙ c.if-len-eq1.true) c.put_only.ensures.members (omega (arith, c.if-cap-eq0.false))
      (λ es is. sym cut ∙ c.is_cut.ensures es is) (c.is_forced.ensures forced) events stands
      (ends-by criterion (Contains (members c.args.states.now)) (transactions events) end known),
)

pub returns-clause-replaces : goal.returns-clause-replaces
returns-clause-replaces c done = (
  c.in-Some.end,
  c.in-Some.is,
  λ criterion events stands known.
      let cut : c.is_cut.result ≡ true = grind (arith, c.if-not-is_cut.false) in
      let forced : c.is_forced.result ≡ true = grind (arith, c.if-not-is_forced.false) in
      let found : c.find_forced.result ≡ true = grind (arith, c.if-not-find_forced.false) in
      rw c.swap.ensures.x_after ((rw c.states.ensures.members at (c.find_forced.ensures.ends found))
      criterion events (c.transactions-items.ensures.stands events stands) (sym (c.is_cut.ensures events stands) ∙ cut) known),
)
