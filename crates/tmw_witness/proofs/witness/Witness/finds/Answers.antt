use Rattle.tmw_witness.proofs.Shared.{Contains, List, View, Witnesses, refl, subst, transactions}
use Rattle.tmw_defs.proofs.Weaker.{ends-by}
use Rattle.tmw_cuts.specs.Members.{members}
use Rattle.tmw_witness.proofs.witness.Witness.finds.Goals as goal

pub returns-in-Some-clause-tells : goal.returns-in-Some-clause-tells
returns-in-Some-clause-tells c = λ events stands.
    let (end, ends) = (c.in-Some.ensures.tells events stands).0 refl in (
      λ yes. (end, ends-by c.args.criterion (Contains (members c.args.starts.now)) (transactions events) end ends),
      λ some. refl,
    )

pub returns-in-Some-clause-known : goal.returns-in-Some-clause-known
returns-in-Some-clause-known c = λ events stands.
    subst (λ (v : List View). Witnesses (members c.args.starts.now) v c.take.new.self) (c.transactions.ensures.stands events stands)
    (c.take.ensures (members c.args.starts.now) c.in-Some.ensures.start)

pub returns-in-Opacity-clause-tells : goal.returns-in-Opacity-clause-tells
returns-in-Opacity-clause-tells c = rw c.in-Opacity.is c.in_default.ensures.tells

pub returns-in-Strict-clause-tells : goal.returns-in-Strict-clause-tells
returns-in-Strict-clause-tells c = rw (c.in-Strict.is, c.is_some.ensures) c.find_order-in-Strict.ensures.tells
