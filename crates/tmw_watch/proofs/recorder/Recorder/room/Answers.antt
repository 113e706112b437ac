use Rattle.tmw_watch.proofs.recorder.Recorder.room.Goals as goal

pub returns-clause-ok : goal.returns-clause-ok
returns-clause-ok c = c.room.ensures.ok
