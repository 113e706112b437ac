use Rattle.tmw_reason.proofs.Shared.{[], rules, sym, ◌∙◌, ◌∷◌, ◌≡◌}
use Rattle.tmw_reason.proofs.CasesProof.{said-push, said-same}
use Rattle.tmw_reason.proofs.case_search.add_case.Goals as goal

pub returns-then-is_said_for-clause-said : goal.returns-then-is_said_for-clause-said
returns-then-is_said_for-clause-said c = λ found.
    said-same c.args.all.now c.args.candidates.now c.args.place c.args.cases.now.items c.requires.said
    (rw c.deref.ensures.value at (sym c.is_said_for.ensures ∙ c.if-is_said_for.true))

pub returns-clause-said : goal.returns-clause-said
returns-clause-said c = λ is.
    let found = rw c.in-Some.is at c.in_ok-case.ensures in
    let one : c.in_ok-places.places.items ≡ c.args.place ∷ [] = search rules in
    let none = rw c.deref.ensures.value at (sym c.is_said_for.ensures ∙ c.if-is_said_for.false) in
    rw c.in_ok-push.ensures.items
    (said-push c.args.all.now c.args.candidates.now c.args.place c.args.cases.now.items c.in-Some.case c.add_states.new.case c.requires.said
    c.requires.within none (found.0 ∙ one) (rw c.deref-2.ensures.value at c.in_ok-add_states.ensures))
