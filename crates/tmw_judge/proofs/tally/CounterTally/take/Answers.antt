-- The counter takes an event with which the history stays well-formed.
use Rattle.tmw_judge.proofs.tally.CounterTally.take.Goals as goal

pub returns : goal.returns
returns c registers history low formed so = c.in-Ok.ensures.takes registers history low so
