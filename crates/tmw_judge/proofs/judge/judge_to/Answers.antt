-- A trace is begun, and its events are fed. Each monitor reports on the history that it was fed, and the counter on the part that is counted.
use Rattle.tmw_judge.proofs.Shared.{refl}
use Rattle.tmw_judge.proofs.AnswerParts.{answer-fed}
use Rattle.tmw_judge.proofs.Judging.{fed-done, fed-fault, fed-memory, fed-unbegun, unbegun-memory}
use Rattle.tmw_judge.proofs.judge.judge_to.Goals as goal

pub returns-in-Err-clause-right : goal.returns-in-Err-clause-right
returns-in-Err-clause-right g c =
    rw c.quote_fault-told.ensures.fault (fed-unbegun g.F.Ending.first g.C.Tally.counts g.S.Source.from g.E.Sink.to (g.S.Source.from.ended c.begin.new.source)
    c.args.source.now c.begin.new.source c.args.errors.now c.quote_fault-told.new.errors c.begin.new.lines c.args.options.bounds c.args.options.asked
    c.in-Err.fault c.in-Err.ensures.begins c.quote_fault-told.ensures.told)

pub returns-in-Err-feed_events-clause-right : goal.returns-in-Err-feed_events-clause-right
returns-in-Err-feed_events-clause-right g c =
    rw c.quote_fault.ensures.fault (fed-fault g.F.Ending.first g.S.Source.from g.C.Tally.counts
    (g.S.Source.from.ended c.begin.new.source)
    (g.S.Source.from.ended c.feed_events.new.source) c.args.source.now c.begin.new.source c.feed_events.new.source c.begin.new.lines
    c.feed_events.new.lines c.args.options.bounds c.args.options.asked c.in-Ok.judges c.feed_events.new.judges c.in-Ok.ensures.begins g.E.Sink.to
    c.args.errors.now c.quote_fault.new.errors c.in-Err-feed_events.fault c.in-Err-feed_events.ensures.feeds
    c.quote_fault.ensures.told)

pub returns-clause-right : goal.returns-clause-right
returns-clause-right g c =
    let (all, told, fed) = fed-done g.F.Ending.first g.S.Source.from g.C.Tally.counts (g.S.Source.from.ended c.begin.new.source)
    (g.S.Source.from.ended c.feed_events.new.source) c.args.source.now c.begin.new.source c.feed_events.new.source c.begin.new.lines
    c.feed_events.new.lines c.args.options.bounds c.args.options.asked c.in-Ok.judges c.feed_events.new.judges c.in-Ok.ensures.begins
    c.in_default.field-0 c.in_default.ensures.feeds in (
      all,
      told,
      answer-fed g.F.Ending.first g.C.Tally.counts g.C.Tally.counted c.args.options.bounds c.args.options.asked _ all c.feed_events.new.judges
          c.reports_of.result c.summary.result c.broken_of.result c.reports_of.ensures c.summary.ensures c.broken_of.ensures fed,
      refl,
    )

pub returns-in-Err-clause-memory : goal.returns-in-Err-clause-memory
returns-in-Err-clause-memory g c is =
    unbegun-memory g.C.Tally.counts g.S.Source.from (g.S.Source.from.ended c.begin.new.source) c.args.source.now c.begin.new.source
    c.begin.new.lines c.args.options.bounds c.args.options.asked c.in-Err.fault c.in-Err.ensures.begins
    (let told = c.quote_fault-told.ensures.fault in cc)

pub returns-in-Err-feed_events-clause-memory : goal.returns-in-Err-feed_events-clause-memory
returns-in-Err-feed_events-clause-memory g c is =
    absurd (fed-memory g.F.Ending.first g.S.Source.from g.C.Tally.counts (g.S.Source.from.ended c.begin.new.source)
    (g.S.Source.from.ended c.feed_events.new.source) c.args.source.now c.begin.new.source c.feed_events.new.source c.begin.new.lines
    c.feed_events.new.lines c.args.options.bounds c.args.options.asked c.in-Ok.judges c.feed_events.new.judges c.in-Ok.ensures.begins
    c.in-Err-feed_events.fault c.in-Err-feed_events.ensures.feeds (let told = c.quote_fault.ensures.fault in cc))
