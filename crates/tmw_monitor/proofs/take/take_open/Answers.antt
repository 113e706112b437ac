-- The window takes the event, a serial order that is known goes on with it, and what is not quiet is searched.
use Rattle.tmw_monitor.proofs.Shared.{[], inl, members, refl, transactions, ◌++◌, ◌∷◌}
use Rattle.tmw_monitor.proofs.take.take_open.Goals as goal

pub returns-then-quiet-clause-tells : goal.returns-then-quiet-clause-tells
returns-then-quiet-clause-tells c = λ cap events stands next was.
    let after = c.take.ensures.stands events stands next in
    inl (record {
      uncut = c.requires.uncut events stands next;
      ends = inl (c.is_quiet-quiet.ensures c.if-quiet.true (transactions events) c.args.event.thread.number);
      states = refl;
      stands = after;
      witness = c.follow.ensures (members c.args.kept.now.states) c.args.kept.now.window events stands next after was;
    })

pub returns-clause-tells : goal.returns-clause-tells
returns-clause-tells c = λ cap events stands next was.
    let after = c.take.ensures.stands events stands next in
    c.search.ensures.tells cap _ (events ++ c.args.event ∷ []) after (c.requires.uncut events stands next)
    (c.follow.ensures (members c.args.kept.now.states) c.args.kept.now.window events stands next after was)
