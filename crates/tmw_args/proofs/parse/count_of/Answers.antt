-- The number that was read is the option's, where it is in the range.
use Rattle.tmw_args.proofs.Shared.{arith, found_of, None, Some, ◌∙◌, ◌≡◌}
use Rattle.tmw_args.proofs.CountTexts.{read-count, unread-count}
use Rattle.tmw_args.proofs.parse.count_of.Goals as goal
use Rattle.tmw_args.proofs.parse.count_of.Goals.{then-number-least-via-then-number-least, then-number-least-via-else-number-least+then-number-most}

pub returns-in_err-number-clause-number : goal.returns-in_err-number-clause-number
returns-in_err-number-clause-number c =
    c.from_residual.ensures
    ∙ unread-count (found_of c.args.matches.now) c.args.name.now c.args.least c.args.most
    (λ text is count. (c.in_err-number.ensures.value text is).1.0 (count.0, count.1))

pub returns-then-number-least-clause-number : goal.returns-then-number-least-clause-number
returns-then-number-least-clause-number c = grind (arith, unread-count, found_of, then-number-least-via-then-number-least, then-number-least-via-else-number-least+then-number-most)

pub returns-clause-number : goal.returns-clause-number
returns-clause-number c =
    read-count (found_of c.args.matches.now) c.args.name.now c.args.least c.args.most c.in_ok-number.number
    (λ none.
    let bad : Some c.in_ok-number.number ≡ None = c.in_ok-number.ensures.none none in
    absurd (cc))
    (λ text is.
    let read = (c.in_ok-number.ensures.value text is).0 in
    ((read.0.0, read.0.1, omega (arith, read.1, c.if-number-least.false), omega (arith, read.1, c.if-number-most.false)), read.1))
