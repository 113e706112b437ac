use Rattle.tmw_watch.proofs.Shared.{rules}
use Rattle.tmw_watch.proofs.recorder.Recorder.record.Goals as goal

pub returns-clause-ok : goal.returns-clause-ok
returns-clause-ok c = search rules
