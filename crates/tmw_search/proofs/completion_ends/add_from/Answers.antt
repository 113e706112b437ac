use Rattle.tmw_search.proofs.Shared.{IsTrue}
use Rattle.tmw_search.proofs.AddMembers.{adds-to, adds-empty}
use Rattle.tmw_search.proofs.completion_ends.add_from.Goals as goal

pub returns-then-not-reading-clause-adds : goal.returns-then-not-reading-clause-adds
returns-then-not-reading-clause-adds c = adds-empty (λ e (lives, x). absurd (cc))

pub returns-clause-adds : goal.returns-clause-adds
returns-clause-adds c =
    let lives : IsTrue c.args.reading.now.alive = cc in
    let same = c.put_known-registers.ensures.ends _ (c.requires lives) in
    adds-to (λ e x. (lives, (same e).1 x)) (λ all e (_, x). (same e).0 x) c.add_last.ensures.adds
