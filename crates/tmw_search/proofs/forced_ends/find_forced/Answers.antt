use Rattle.tmw_search.proofs.Shared.{Contains, arith, ends-by, transactions}
use Rattle.tmw_search.proofs.ForcedEnds.{forced-ends, none-pending, some-begun}
use Rattle.tmw_search.proofs.SearchAnswers.{shown-of}
use Rattle.tmw_search.proofs.forced_ends.find_forced.Goals as goal

pub returns-then-add_forced-clause-ends : goal.returns-then-add_forced-clause-ends
returns-then-add_forced-clause-ends c few criterion events shown cut known =
    let items = c.args.items.now in
    let committed = c.statuses_of-committed.result.committed in
    let pending = c.statuses_of-committed.result.pending in
    let status = c.statuses_of-committed.ensures.shows in
    let (reach, b) = some-begun criterion items committed pending c.requires.few c.statuses_of-committed.ensures.eight status in
    let shows = c.needs_of-needs.ensures c.writers_of-writers.ensures in (
      let most = c.are_few.ensures.few few in omega (arith, most, c.add_forced.ensures.cap, c.begin.ensures.cap),
      forced-ends criterion items events committed pending reach (shown-of b events shown) (none-pending items events committed pending status shown cut)
          c.needs_of-needs.result shows c.args.starts.now _ c.writers_of-writers.result c.args.end.now c.told-starts c.writers_of-writers.ensures c.requires.forced shown cut
          (rw c.begin.ensures.ends at (c.add_forced.ensures.adds c.if-add_forced.true)) (c.add_forced.ensures.alike c.if-add_forced.true) (ends-by criterion (Contains c.args.starts.now) (transactions events) c.args.end.now known),
    )
