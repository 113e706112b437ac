-- By both criteria, what fits them fits them with the event more.
use Rattle.tmw_judge.proofs.JudgesTake.{feeds-both}
use Rattle.tmw_judge.proofs.monitors.feed_each.Goals as goal

pub returns-in-Both : goal.returns-in-Both
returns-in-Both c = feeds-both c.args.monitors.now c.args.event c.in-Both.both c.take-in-Both.new.self c.in-Both.is c.take-in-Both.ensures
