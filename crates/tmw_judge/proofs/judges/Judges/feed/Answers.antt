-- An event that was fed is one more, and is counted if what is counted ends with it.
use Rattle.tmw_judge.proofs.Shared.{both_ways, refl, sym, ◌∙◌}
use Rattle.tmw_judge.proofs.CountedPart.{counted-before, judged-more}
use Rattle.tmw_judge.proofs.JudgesTake.{few_fed, have_room}
use Rattle.tmw_judge.proofs.judges.Judges.feed.Goals as goal

pub take-requires : goal.take-requires
take-requires g c =
    let so = c.requires.2 in
    let fed = c.feed.ensures.feeds so.header so.bounds so.asked so.history so.fed.fed in
    let before = counted-before g.C.Tally.counts so.header so.bounds so.asked so.history c.args.event c.args.self.now _ so.fed fed
    (sym (c.feed.ensures.covers so.header so.bounds so.asked _ fed) ∙ c.if-feed.true) in
    (so.header.registers.number, so.history, before.0, before.1)

pub returns-then-feed : goal.returns-then-feed
returns-then-feed g c header bounds asked history was =
    let few = few_fed header bounds asked history c.args.self.now.monitors
    (have_room g.C.Tally.counts c.args.self.now c.requires.0 c.requires.1 c.requires.2) was.fed in
    let fed = c.feed.ensures.feeds header bounds asked history was.fed in
    judged-more g.C.Tally.counts header bounds asked history c.args.event c.args.self.now _ was fed
    (λ is formed so. c.take.ensures header.registers.number history few formed so)
    (λ not. absurd (both_ways _ (c.feed.ensures.covers header bounds asked _ fed ∙ not) c.if-feed.true))

pub returns-else-feed : goal.returns-else-feed
returns-else-feed g c header bounds asked history was =
    let fed = c.feed.ensures.feeds header bounds asked history was.fed in
    judged-more g.C.Tally.counts header bounds asked history c.args.event c.args.self.now _ was fed
    (λ is formed so. absurd (both_ways _ c.if-feed.false (c.feed.ensures.covers header bounds asked _ fed ∙ is)))
    (λ not. refl)
