-- The order leads to the state of the highest rank.
use Rattle.tmw_witness.proofs.Shared.{Contains, Ends, IfSome, None, Option, Some, State, rules, shows-views_of, subst, sym, transactions}
use Rattle.tmw_witness.proofs.Path.{witness-ends}
use Rattle.tmw_witness.proofs.witness.Witness.known_end.Goals as goal

if_some : {X : Type 0} {P Q : X → Type 0} (o : Option X) → ((x : X) → P x → Q x) → IfSome o P → IfSome o Q
if_some None to holds = tt
if_some (Some x) to holds = to x holds

pub returns-clause-shown : goal.returns-clause-shown
returns-clause-shown c = search rules

pub returns-clause-end : goal.returns-clause-end
returns-clause-end c =
    let w = c.args.self.now in
    if_some c.get.result (λ end shown starts events was.
    subst (λ (s : State). Ends (Contains starts) (transactions events) s) (sym shown.2)
    (witness-ends (was shown.0) (shows-views_of events))) (returns-clause-shown c)
