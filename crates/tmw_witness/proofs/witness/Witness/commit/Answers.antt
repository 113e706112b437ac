use Rattle.tmw_witness.proofs.Shared.{State, after_writes, inr, rank_of, refl, rules, state_of, sym, view, ◌∙◌, ◌≡◌}
use Rattle.tmw_witness.proofs.WitnessChanges.{left_out-kept, held-kept}
use Rattle.tmw_witness.proofs.witness.Witness.commit.Goals as goal

pub returns-then-is_held : goal.returns-then-is_held
returns-then-is_held c = λ starts xs ys x turns committed same was.
    held-kept starts xs ys x (view c.args.item.now) c.args.self.now c.args.place.number turns (sym c.is_held.ensures ∙ c.if-is_held.true) (rw committed refl) same was

pub returns-then-hold : goal.returns-then-hold
returns-then-hold c = λ starts xs ys x turns committed same was.
    c.hold.ensures.held c.if-hold.true starts xs ys x turns same (rw committed refl) was

pub returns-else-not-stays : goal.returns-else-not-stays
returns-else-not-stays c = λ starts xs ys x turns committed same was.
    let stays = c.hold.ensures.left c.if-hold.false in
    let w = c.hold.new.self in
    let at : State = state_of w (rank_of w c.args.place.number) in
    let leaves : after_writes at c.args.item.now.ops.items ≡ at = search rules in
    left_out-kept starts xs ys x (view c.args.item.now) c.hold.new.self c.args.place.number turns (rw stays (sym c.is_held.ensures ∙ c.if-is_held.false))
    (inr (rw committed refl, leaves)) (λ reads. rw same reads) (rw stays was)
