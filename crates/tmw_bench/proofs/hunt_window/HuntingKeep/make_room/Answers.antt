-- Room may be refused.
use Rattle.tmw_bench.proofs.Shared.{Err, Ok, OnErr, Result}
use Rattle.tmw_bench.proofs.hunt_window.HuntingKeep.make_room.Goals as goal

always : {T E : Type 0} (result : Result T E) → OnErr result (Unit {0})
always (Ok value) = tt
always (Err error) = tt

pub returns-clause-refused : goal.returns-clause-refused
returns-clause-refused g c = always c.make_room.result
