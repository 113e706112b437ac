-- The monitors are mostly for both criteria.
use Rattle.tmw_judge.proofs.JudgesTake.{feeds-both}
use Rattle.tmw_judge.proofs.tally.BothNoTallyTally.feed.Goals.{in-Both, in_default}
use Rattle.tmw_judge.proofs.tally.BothNoTallyTally.feed.Goals as goal

pub returns-clause-feeds : goal.returns-clause-feeds
returns-clause-feeds c header bounds asked history fed = elim c.match-monitors.branch [
  | in-Both w ↦
      rw w.monitors-is (feeds-both c.args.monitors.now c.args.event w.in-Both.both w.take.new.self w.in-Both.is w.take.ensures header bounds asked history fed)
  | in_default w ↦ rw w.monitors-is (w.feed_copy.ensures header bounds asked history fed)
]
