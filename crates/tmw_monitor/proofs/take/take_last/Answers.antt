-- The window takes the event, a serial order that is known goes on with it, and what is then weighed tells.
use Rattle.tmw_monitor.proofs.Shared.{[], members, ◌++◌, ◌∷◌}
use Rattle.tmw_monitor.proofs.take.take_last.Goals as goal

pub returns-clause-tells : goal.returns-clause-tells
returns-clause-tells c = λ events stands next was.
    let after = c.end.ensures.stands events stands next in
    c.close.ensures.tells _ (events ++ c.args.event ∷ []) after (c.requires.cut events stands next)
    (c.follow.ensures (members c.args.kept.now.states) c.args.kept.now.window events stands next after was)
