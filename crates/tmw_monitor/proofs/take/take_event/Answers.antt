-- The event leads to no cut, since the mask has told that it does not, or since it ends no transaction.
use Rattle.tmw_monitor.proofs.Shared.{End, IsNext, Ix, Move, ap, false, is_end, refl, subst, sym, uncut-next, ◌∙◌, ◌≡◌}
use Rattle.tmw_monitor.proofs.take.take_event.Goals.{in-End+else-is_cut_with, in_default}
use Rattle.tmw_monitor.proofs.take.take_event.Goals as goal

not_end : (move : Move) → ((p : Ix) → move ≡ End p → ⊥) → is_end move ≡ false
not_end (End p) not = absurd (not p refl)
not_end _ not = refl

pub take_open-requires-clause-uncut : goal.take_open-requires-clause-uncut
take_open-requires-clause-uncut c events stands next =
    elim c.match-step.branch [
      | in-End+else-is_cut_with w ↦
          let ends : IsNext c.args.kept.now.window c.args.event (End w.in-End.place) = rw w.step-is at next in
          sym (w.is_cut_with.ensures events c.args.event stands ends) ∙ w.if-is_cut_with.false
      | in_default w ↦
          uncut-next events c.args.event c.args.kept.now.window c.match-step.step stands next
          (ap is_end w.step-is ∙ not_end c.args.step w.in_default.not-End)
    ]

pub returns-clause-tells : goal.returns-clause-tells
returns-clause-tells c = λ events stands next was.
    c.take_open.ensures.tells c.args.cap events stands (subst (λ (m : Move). IsNext c.args.kept.now.window c.args.event m) same next) was
  where
    same : c.args.step ≡ c.match-step.step
    same = elim c.match-step.branch [ in-End+else-is_cut_with w ↦ w.in-End.is ∙ sym w.step-is | in_default w ↦ sym w.step-is ]
