-- The thread's turn is the next, and those of the others stay.
use Rattle.tmw_cuts.proofs.Shared.{Answer, Ask, Begin, End, IsNext, None, Some, refl, rules}
use Rattle.tmw_cuts.proofs.Follows.{follows-push}
use Rattle.tmw_cuts.proofs.OneEventMore.{moves}
use Rattle.tmw_cuts.proofs.window.Window.follow.Goals as goal

pub returns-in-Begin-clause-ok : goal.returns-in-Begin-clause-ok
returns-in-Begin-clause-ok c registers history follows =
    let is : IsNext c.args.self.now c.args.event Begin = rw c.in-Begin.is at c.in_ok-step.ensures.ok in
    follows-push registers history c.args.event c.args.self.now _ Begin _ follows is (search rules) refl
    (c.ask.ensures (moves c.args.event c.args.self.now Begin is).is.1) refl

pub returns-in-Ask-clause-ok : goal.returns-in-Ask-clause-ok
returns-in-Ask-clause-ok c registers history follows =
    let move = Ask c.in-Ask.place in
    let is : IsNext c.args.self.now c.args.event move = rw c.in-Ask.is at c.in_ok-step.ensures.ok in
    follows-push registers history c.args.event c.args.self.now _ move _ follows is (search rules) refl
    (c.ask-in-Ask.ensures (moves c.args.event c.args.self.now move is).is.1) refl

pub returns-in-Answer-clause-ok : goal.returns-in-Answer-clause-ok
returns-in-Answer-clause-ok c registers history follows =
    let p = c.in-Answer.field-0 in
    let move = Answer p c.in-Answer.field-1 in
    let is : IsNext c.args.self.now c.args.event move = rw c.in-Answer.is at c.in_ok-step.ensures.ok in
    let (call, (kept, _)) = (moves c.args.event c.args.self.now move is).is in
    follows-push registers history c.args.event c.args.self.now _ move (Some (p, None)) follows is (search rules) refl
    (c.go_on.ensures p (Some call) kept) refl

pub returns-in-End-clause-ok : goal.returns-in-End-clause-ok
returns-in-End-clause-ok c registers history follows =
    let move = End c.in-End.field-0 in
    let is : IsNext c.args.self.now c.args.event move = rw c.in-End.is at c.in_ok-step.ensures.ok in
    follows-push registers history c.args.event c.args.self.now _ move _ follows is (search rules) refl c.end.ensures refl
