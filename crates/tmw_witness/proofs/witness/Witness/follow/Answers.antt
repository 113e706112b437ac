-- The event's transaction turns, and the order goes on with it, or is not known any more.
use Rattle.tmw_witness.proofs.Shared.{Answer, Begin, C, End, IsNext, Some, View, [], ap, append-nil, arith, asked_on, completed_mask, false, found-begun, left_out, length, length-append, moves, new_view, next_view, refl, status_after, sym, true, view, views_of, ◌++◌, ◌∙◌, ◌∷◌, ◌≡◌}
use Rattle.tmw_witness.proofs.OneEventMore.{asks-kept, begun-pushed, completed-within, no_commit, turned, turned-shown}
use Rattle.tmw_witness.proofs.witness.Witness.follow.Goals.{in-C, in_default}
use Rattle.tmw_witness.proofs.witness.Witness.follow.Goals as goal

pub returns-in-Begin : goal.returns-in-Begin
returns-in-Begin c = λ starts before events stands next after was.
    let e = c.args.event in
    let begins : IsNext before e Begin = rw c.in-Begin.is at next in
    let xs = views_of events in
    let y : View = new_view e.kind (completed_mask xs) in
    let begun = begun-pushed events e before stands begins in
    let on = no_commit e.kind (asked_on e.kind (found-begun events e before stands begins).1) in
    let size = ap length (after.shows ∙ begun) ∙ length-append xs (y ∷ []) in
    rw begun (c.begin.ensures.stands starts xs y (omega (arith, size, ap length after.shows, c.last.ensures (omega (arith, size)))) refl
    (left_out e.kind on) (λ j one. completed-within xs j one) was)

pub returns-in-Ask : goal.returns-in-Ask
returns-in-Ask c = λ starts before events stands next after was.
    asks-kept c.args.self.now before c.args.event c.in-Ask.field-0 starts events stands (rw c.in-Ask.is at next) was

pub returns-in-Answer : goal.returns-in-Answer
returns-in-Answer c = λ starts before events stands next after was.
    let e = c.args.event in
    let p = c.in-Answer.place in
    let op = c.in-Answer.field-1 in
    let answers : IsNext before e (Answer p op) = rw c.in-Answer.is at next in
    let (x, turns, is) = turned-shown events e before c.args.window.now (Answer p op) p (view c.slot.result.now) stands answers refl after c.slot.ensures in
    let (call, (kept, (makes, on))) = (moves e before (Answer p op) answers).is in
    let status = ap (λ (v : View). v.status) is in
    c.answer.ensures starts (views_of events) (views_of (events ++ e ∷ [])) x turns
    (rw status (left_out e.kind (no_commit e.kind on))) was

pub returns-then-matches : goal.returns-then-matches
returns-then-matches c = λ starts before events stands next after was.
    let e = c.args.event in
    let p = c.in-End.place in
    let ends : IsNext before e (End p) = rw c.in-End.is at next in
    let (x, turns, is) = turned-shown events e before c.args.window.now (End p) p (view c.slot-then-matches.result.now) stands ends refl after
    c.slot-then-matches.ensures in
    let commits : e.kind ≡ C = elim c.match-matches.branch [
      | in-C w ↦ w.in-C.is
      | in_default w ↦ let bad : true ≡ false = sym c.if-matches.true ∙ w.matches-is in absurd (cc)
    ] in
    c.commit.ensures starts (views_of events) (views_of (events ++ e ∷ [])) x
    turns
    (ap (λ (v : View). v.status) is ∙ ap (λ k. status_after (Some k)) commits) (ap (λ (v : View). v.ops) is ∙ append-nil x.ops) was

pub returns-else-matches : goal.returns-else-matches
returns-else-matches c = λ starts before events stands next after was.
    let e = c.args.event in
    let p = c.in-End.place in
    let ends : IsNext before e (End p) = rw c.in-End.is at next in
    let (x, turns) = turned events e before (End p) p stands ends refl in
    let aborts : e.kind ≡ C → ⊥ = elim c.match-matches.branch [
      | in-C w ↦ let bad : true ≡ false = sym w.matches-is ∙ c.if-matches.false in absurd (cc)
      | in_default w ↦ w.in_default.not-C
    ] in
    c.abort.ensures starts (views_of events) (views_of (events ++ e ∷ [])) x (next_view e.kind [] x) turns
    (append-nil x.ops) (left_out e.kind aborts) was
