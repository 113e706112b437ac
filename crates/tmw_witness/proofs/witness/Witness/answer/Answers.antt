use Rattle.tmw_witness.proofs.Shared.{arith, inl, rules, sym, view, ◌∙◌}
use Rattle.tmw_witness.proofs.WitnessChanges.{AreLong, left_out-kept, moved-kept}
use Rattle.tmw_witness.proofs.witness.Witness.answer.Goals as goal

pub returns-then-holds_at : goal.returns-then-holds_at
returns-then-holds_at c = λ starts xs ys x turns may was.
    left_out-kept starts xs ys x (view c.args.item.now) c.args.self.now c.args.place.number turns (sym c.is_held.ensures ∙ c.if-is_held.false) (inl may)
    (λ reads. rw c.get-at.ensures.value at ((c.holds_at.ensures.holds c.if-holds_at.true).1)) was

pub returns-in-Some : goal.returns-in-Some
returns-in-Some c =
    let long : AreLong c.args.self.now = search rules in
    let found = c.in-Some.ensures in
    λ starts xs ys x turns may was.
    rw c.get-at.ensures.value (moved-kept starts xs ys x (view c.args.item.now) c.args.self.now c.args.place.number c.in-Some.rank c.in-Some.rank long
    c.args.place.below turns (sym c.is_held.ensures ∙ c.if-is_held.false) may (omega arith) found.0 found.3 found.2 was)
