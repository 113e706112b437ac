-- The judges take the events of the lines that are left, unless they are to stop before these.
use Rattle.tmw_judge.proofs.Shared.{sym, ◌∙◌}
use Rattle.tmw_judge.proofs.FeedEvents.{at_final, fed-so_many, feeds-given, feeds-none, still_open}
use Rattle.tmw_judge.proofs.feed_events.feed_events.Goals as goal

pub give_items-requires-clause-counted : goal.give_items-requires-clause-counted
give_items-requires-clause-counted g c = fed-so_many g.C.Tally.counts c.args.lines.now c.args.judges.now c.requires

pub returns-then-is_at-clause-feeds : goal.returns-then-is_at-clause-feeds
returns-then-is_at-clause-feeds g c =
    let (so, final) = at_final _ _ (sym c.is_at.ensures ∙ c.if-is_at.true) in
    feeds-none g.F.Ending.first g.S.Source.from g.C.Tally.counts (g.S.Source.from.ended c.args.source.now) c.args.source.now
    c.args.lines.now c.args.judges.now so final

pub returns-clause-feeds : goal.returns-clause-feeds
returns-clause-feeds g c =
    feeds-given g.F.Ending.first g.C.Tally.counts (g.S.Source.from.ended c.give_items.new.source) c.args.lines.now
    c.give_items.new.lines c.args.judges.now c.give_items.new.taker (still_open _ _ (sym c.is_at.ensures ∙ c.if-is_at.false))
    g.S.Source.from c.args.source.now c.give_items.new.source c.give_items.result c.give_items.ensures.gives
