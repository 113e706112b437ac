-- The number is that of the history's live transactions.
use Rattle.tmw_wellformed.proofs.TrackerSteps.{is_cut-zero_live}
use Rattle.tmw_wellformed.proofs.tracker.Tracker.live.Goals as goal

pub returns-clause-none : goal.returns-clause-none
returns-clause-none c registers history tracks = is_cut-zero_live registers history c.args.self.now tracks
