-- One event more was taken.
use Rattle.tmw_judge.proofs.JudgesTake.{counted-taken}
use Rattle.tmw_judge.proofs.feed_events.JudgesTakerEvent.take.Goals as goal

pub returns-clause-counted : goal.returns-clause-counted
returns-clause-counted g c = counted-taken g.C.Tally.counts c.args.self.now c.feed.new.self c.args.event c.feed.ensures
