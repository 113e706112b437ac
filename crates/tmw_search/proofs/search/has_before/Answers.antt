use Rattle.tmw_search.proofs.Shared.{slice_index}
use Rattle.tmw_search.proofs.Branches.{one-before, some-not}
use Rattle.tmw_search.proofs.search.has_before.Goals as goal

pub returns : goal.returns
returns c = λ is. one-before (slice_index c.args.reach.now c.args.j) c.args.mask c.args.j c.requires c.ranges.mask.fits (some-not _ is)
