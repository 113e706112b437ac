-- The thread asks on.
use Rattle.tmw_cuts.proofs.Shared.{Ask, None, Pending, Some, [], ap, append-nil, change, map, numbered, option_map, refl, rules, sym, take, view, views, with_status, ◌∙◌, ◌≡◌}
use Rattle.tmw_cuts.proofs.NextViews.{next_view}
use Rattle.tmw_cuts.proofs.OneChanged.{change-alike, change-nothing}
use Rattle.tmw_cuts.proofs.Moves.{asked_live, asked_on}
use Rattle.tmw_cuts.proofs.OneEventMore.{live-next, moves, stands-with}
use Rattle.tmw_cuts.proofs.window.Window.ask.Goals.{in-T, in_default}
use Rattle.tmw_cuts.proofs.window.Window.ask.Goals as goal

pub returns-clause-stands : goal.returns-clause-stands
returns-clause-stands c events stands next =
    let e = c.args.event in
    let old = c.args.self.now in
    let p = c.args.place in
    let (kept, asks_it) = (moves e old (Ask p) next).is in
    let on = asked_on e.kind asks_it in
    let (turn, one_turn, at) = c.ask.ensures asks_it in
    let f = next_view e.kind [] in
    let shows : map view (take old.count c.match-event.self.1.1.1.0) ≡ change p.number f (views old)
    = elim c.match-event.branch [
      | in-T w ↦ rw w.self-is (w.put_status.ensures.shown old.count old.few
          ∙ change-alike (with_status Pending) f (views old) p.number (λ v there. rw (append-nil v.ops, w.in-T.is) refl))
      | in_default w ↦ rw w.self-is (sym (change-nothing (views old) p.number) ∙ change-alike (λ v. v) f (views old) p.number (λ v there.
          rw (append-nil v.ops, asked_live e.kind asks_it w.in_default.not-T, ← live-next events e old (Ask p) p v stands next refl refl (rw stands.shows at there)) refl))
    ] in
    stands-with events e old _ turn (Ask p) (Some (p, None)) stands next kept (search rules) p.below refl one_turn
    (rw on (ap (option_map numbered) at)) shows (rw on refl)
