-- What is kept shows the event.
use Rattle.tmw_bench.proofs.hunt_window.HuntingKeep.take.Goals as goal

pub returns : goal.returns
returns g c = λ rules history before verdict room fits now kept. c.take.ensures rules history before verdict room.0 fits now kept
