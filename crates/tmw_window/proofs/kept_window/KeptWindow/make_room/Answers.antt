-- A window begins at a cut, from the outcomes there.
use Rattle.tmw_window.proofs.Shared.{arith}
use Rattle.tmw_window.proofs.kept_window.KeptWindow.make_room.Goals as goal

pub returns-clause-next : goal.returns-clause-next
returns-clause-next c = grind arith
