use Rattle.tmw_part.proofs.Violation.{tells-searched}
use Rattle.tmw_part.proofs.is_violated.is_violated.Goals as goal

pub returns : goal.returns
returns c =
    let s = c.args.search.now in
    tells-searched s.criterion s.registers.number s.states.now c.args.events.now c.in-Some.window c.in_ok-possible.field-0
    c.in-Some.ensures.some c.in_ok-possible.ensures
