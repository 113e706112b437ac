-- The thread's transaction ends.
use Rattle.tmw_cuts.proofs.Shared.{End, Event, Ix, List, Some, Window, [], ap, append-nil, bit_or, change, map, numbered, option_map, refl, rules, status_after, take, view, views, with_status, ◌∙◌, ◌≡◌}
use Rattle.tmw_cuts.proofs.NextViews.{next_view}
use Rattle.tmw_defs.specs.declared.status.Status.{Status}
use Rattle.tmw_cuts.specs.declared.txn.Txn.{Txn}
use Rattle.tmw_cuts.proofs.OneChanged.{change-alike}
use Rattle.tmw_cuts.proofs.OneEventMore.{moves, stands-with}
use Rattle.tmw_cuts.proofs.window.Window.end.Goals as goal

with-end : (old : Window) (e : Event) (p : Ix) (status : Status) (slots : List Txn) → status ≡ status_after (Some e.kind)
    → map view (take old.count slots) ≡ change p.number (with_status status) (views old)
    → map view (take old.count slots) ≡ change p.number (next_view e.kind []) (views old)
with-end old e p status slots is shown =
    shown ∙ change-alike (with_status status) (next_view e.kind []) (views old) p.number (λ v there. rw (append-nil v.ops, is) refl)

pub returns-clause-stands : goal.returns-clause-stands
returns-clause-stands c events stands next =
    let old = c.args.self.now in
    let p = c.args.place in
    let (call, (kept, (makes, over))) = (moves c.args.event old (End p) next).is in
    let (turn, one_turn, at) = c.end.ensures in
    stands-with events c.args.event old _ turn (End p) (Some (p, Some call)) stands next kept (search rules) p.below refl
    one_turn (rw over (ap (option_map numbered) at))
    (rw makes (with-end old c.args.event p c.status_after.result c.put_status.new.slots c.status_after.ensures (c.put_status.ensures.shown old.count old.few))) (rw over (ap (bit_or old.completed) c.bit_of.ensures))
