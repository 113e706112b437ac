use Rattle.tmw_search.proofs.Shared.{FromIs, Holds, ReadSource, effects, refl, subst, sym}
use Rattle.tmw_search.proofs.Nodes.{mid-same}
use Rattle.tmw_search.proofs.search.hold_source.Goals as goal

pub returns-in-Open : goal.returns-in-Open
returns-in-Open c = λ start may n given. mid-same n (λ k from. subst (λ (s : ReadSource). FromIs s k) c.in-Open.is from)

pub returns-in-Start : goal.returns-in-Start
returns-in-Start c = λ start may n given. mid-same n (λ k from. subst (λ (s : ReadSource). FromIs s k) c.in-Start.is from)

pub returns-in-From : goal.returns-in-From
returns-in-From c = λ start may n given.
    subst (λ (s : ReadSource). Holds (effects c.args.items.now) start may s c.args.node.now c.hold.new.node) (sym c.in-From.is)
    (c.hold.ensures start may n (given c.in-From.i (subst (λ (s : ReadSource). FromIs s c.in-From.i) (sym c.in-From.is) refl)))
