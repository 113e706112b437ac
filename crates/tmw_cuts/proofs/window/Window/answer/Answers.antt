-- The thread's call is answered.
use Rattle.tmw_cuts.proofs.Shared.{Answer, Some, View, [], ap, numbered, option_map, refl, rules, slice_get, views, with_op, ◌∙◌, ◌∷◌, ◌≡◌}
use Rattle.tmw_cuts.proofs.NextViews.{next_view}
use Rattle.tmw_cuts.proofs.OneChanged.{change-alike}
use Rattle.tmw_cuts.proofs.Moves.{answered_live}
use Rattle.tmw_cuts.proofs.OneEventMore.{live-next, moves, stands-with}
use Rattle.tmw_cuts.proofs.window.Window.answer.Goals as goal

pub returns-clause-stands : goal.returns-clause-stands
returns-clause-stands c events stands next =
    let e = c.args.event in
    let old = c.args.self.now in
    let p = c.args.place in
    let (call, (kept, (makes, on))) = (moves e old (Answer p c.args.op) next).is in
    let (turn, one_turn, at) = c.go_on.ensures p (Some call) kept in
    let stays : (v : View) → slice_get (views old) p.number ≡ Some v → with_op c.args.op v ≡ next_view e.kind (c.args.op ∷ []) v
    = λ v there. rw (answered_live call e.kind c.args.op makes, ← live-next events e old (Answer p c.args.op) p v stands next refl refl (rw stands.shows at there)) refl in
    stands-with events e old _ turn (Answer p c.args.op) (Some (p, Some call)) stands next kept (search rules) p.below refl one_turn
    (rw on (ap (option_map numbered) at))
    (rw makes (c.put_op.ensures.shown old.count old.few ∙ change-alike (with_op c.args.op) (next_view e.kind (c.args.op ∷ [])) (views old) p.number stays))
    (rw on refl)
