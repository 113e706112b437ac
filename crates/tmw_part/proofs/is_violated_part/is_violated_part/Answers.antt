use Rattle.tmw_part.proofs.Shared.{members, sym, ◌∙◌}
use Rattle.tmw_part.proofs.Violation.{not-kept, told-part, told-fails}
use Rattle.tmw_part.proofs.is_violated_part.is_violated_part.Goals as goal

pub returns-clause-is : goal.returns-clause-is
returns-clause-is c =
    let s = c.args.search.now in
    told-part s.criterion s.registers.number (members s.states.now) s.events.now c.args.marks.now c.is_violated.result
    c.requires.each (sym c.in_ok-keeps_part.ensures ∙ c.if-not-branch.false) (rw (c.deref-2.ensures.value ∙ c.in_ok-kept.ensures) at c.is_violated.ensures)

pub returns-then-not-branch-clause-fails : goal.returns-then-not-branch-clause-fails
returns-then-not-branch-clause-fails c =
    let s = c.args.search.now in
    λ is. not-kept s.criterion s.registers.number (members s.states.now) s.events.now c.args.marks.now
    (sym c.in_ok-keeps_part.ensures ∙ c.if-not-branch.true)

pub returns-clause-fails : goal.returns-clause-fails
returns-clause-fails c =
    let s = c.args.search.now in
    told-fails s.criterion s.registers.number (members s.states.now) s.events.now c.args.marks.now c.is_violated.result
    c.requires.few (sym c.in_ok-keeps_part.ensures ∙ c.if-not-branch.false) (rw (c.deref-2.ensures.value ∙ c.in_ok-kept.ensures) at c.is_violated.ensures)
