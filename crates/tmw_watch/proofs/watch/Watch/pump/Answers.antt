use Rattle.tmw_watch.proofs.watch.Watch.pump.Goals as goal

pub returns-clause-pumped : goal.returns-clause-pumped
returns-clause-pumped c = c.in-Ok.ensures.ok
