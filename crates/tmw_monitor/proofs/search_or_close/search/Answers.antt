-- A serial order that is known or found leads to an end state; and where none is and there is no end state, the event is a violation.
use Rattle.tmw_monitor.proofs.Shared.{Contains, ends-by, false, inl, inr, members, refl, sym, transactions, true, ◌∙◌, ◌≡◌}
use Rattle.tmw_monitor.proofs.search_or_close.search.Goals as goal

pub returns-then-is_known-clause-tells : goal.returns-then-is_known-clause-tells
returns-then-is_known-clause-tells c = λ cap quiet events stands uncut was.
    let states = members c.args.kept.now.states in
    let found = c.is_known.ensures.ends states events was c.if-is_known.true in
    inl (record {
      uncut = uncut;
      ends = inr (found.0, ends-by c.args.criterion (Contains states) (transactions events) found.0 found.1);
      states = refl;
      stands = stands;
      witness = was;
    })

pub returns-then-finds-clause-tells : goal.returns-then-finds-clause-tells
returns-then-finds-clause-tells c = λ cap quiet events stands uncut was.
    inl (record {
      uncut = uncut;
      ends = inr ((c.finds.ensures.tells events stands).0 c.if-finds.true);
      states = refl;
      stands = stands;
      witness = c.finds.ensures.known events stands;
    })

pub returns-else-finds-clause-tells : goal.returns-else-finds-clause-tells
returns-else-finds-clause-tells c = λ cap quiet events stands uncut was. (
  stands,
  λ end ends. let bad : false ≡ true = sym c.if-finds.false ∙ (c.finds.ensures.tells events stands).1 (end, ends) in absurd (cc),
)
